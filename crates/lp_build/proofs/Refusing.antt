-- The first signature that is refused, and circles before all other faults.
use Rattle.std.specs.Global.{Global}
use Rattle.std.proofs.Common.{◌≡◌, ℕ, zero, suc, ◌+◌, ◌<◌, ◌≤◌, List, [], ◌∷◌, length, Option, Some, None, String, Vec, refl, sym, subst, ◌∙◌, inl, inr, arith}
use Rattle.std.specs.Prelude.{◌⊎◌, Result, Ok, Err, IfOk, IfErr}
use Rattle.std.proofs.lemmas.Bool.{cases_lt}
use Rattle.std.proofs.lemmas.Option.{same_Some}
use Rattle.lp_base.specs.declared.place.Spot.{Spot}
use Rattle.lp_syntax.specs.declared.text.SignatureText.{SignatureText}
use Rattle.lp_sig.specs.Refusals.{IsAt, IsRefusal, IsRefusedFrom}
use Rattle.lp_sig.specs.declared.fault.SigFault.{SigFault}
use Rattle.lp_sig.specs.declared.fault.SigFault.TheVariants as sig
use Rattle.lp_sig.specs.declared.signature.Signature.{Signature}
use Rattle.lp_build.specs.Meant.{IsDeclaredAt}
use Rattle.lp_build.specs.Refused.{IsFreeFrom, IsSignaturesFault, a_circle, a_signature, of_signature, wanting}
use Rattle.lp_build.specs.declared.fault.BuildFault.{BuildFault}
use Rattle.lp_build.specs.declared.fault.BuildFault.TheVariants as fault
use Rattle.lp_build.specs.declared.texts.Group.{Group}
use Rattle.lp_build.specs.inner.Linked.{AreMade}
use Rattle.lp_build.specs.inner.Refusing.{AreLookedAt, IsFirstBelow, IsOther, IsTaken}

pub at_place : {A : Type 0} (xs : List A) (i : ℕ) → i < length xs → (x : A) × IsAt xs i x
at_place [] i l = absurd (omega (arith, l))
at_place (x ∷ xs) zero l = (x, (omega arith, refl))
at_place (x ∷ xs) (suc i) l = let (y, (m, e)) = at_place xs i (omega (arith, l)) in (y, (omega (arith, m), e))

pub made_all : (g : Group SignatureText) (made : List Signature) (n : ℕ) → AreMade g made n → (p : ℕ) → p < n → (s : Signature) × IsDeclaredAt g p s
made_all g made n h p l = let c = h.count in let (s, at) = at_place made p (omega (arith, l, c)) in (s, h.each p s at)

-- a fault that is neither a circle nor want of memory
other_refused : (g : Group SignatureText) (n : ℕ) (f : SigFault) → IsOther f → IsRefusal g.names.items g.sources.items g.texts.items n f → IsRefusedFrom g.names.items g.sources.items g.texts.items n f
other_refused g n sig.Memory o r = absurd o
other_refused g n (sig.CyclicSignature s) o r = absurd o
other_refused g n (sig.Limit l) o r = r
other_refused g n (sig.UnknownKind s) o r = r
other_refused g n (sig.Arity s) o r = r
other_refused g n (sig.Differ s) o r = r
other_refused g n (sig.CyclicAbbreviation s) o r = r
other_refused g n (sig.Header s) o r = r

pub looked_none : (g : Group SignatureText) → AreLookedAt g 0 None
looked_none g = record { free = λ p l. absurd (omega (arith, l)); first = λ f e. absurd (cc) }

wider : (g : Group SignatureText) (n : ℕ) (f : SigFault) → IsFirstBelow g n f → IsFirstBelow g (n + 1) f
wider g n f h = let l = h.inside in record { place = h.place; inside = omega (arith, l); before = h.before; refused = h.refused }

free_more : (g : Group SignatureText) (n : ℕ) → ((p : ℕ) → p < n → IsFreeFrom g p) → IsFreeFrom g n → (p : ℕ) → p < n + 1 → IsFreeFrom g p
free_more g n h here p l = by (cases_lt p n)
  where
    by : (p < n) ⊎ (n ≤ p) → IsFreeFrom g p
    by (inl m) = h p m
    by (inr m) = let e : n ≡ p = omega (arith, l, m) in subst (IsFreeFrom g) e here

pub looked_more : (g : Group SignatureText) (n : ℕ) (old new : Option SigFault) (answer : Result Signature SigFault) → AreLookedAt g n old → IsTaken answer old new →
    (old ≡ None → (p : ℕ) → p < n → (s : Signature) × IsDeclaredAt g p s) → IfOk answer (IsDeclaredAt g n) → IfErr answer
    (IsRefusal g.names.items g.sources.items g.texts.items n) → AreLookedAt g (n + 1) new
looked_more g n old new (Ok s) h same made ok err = record {
  free = free_more g n h.free (inl (s, ok));
  first = λ f e. wider g n f (h.first f (sym same ∙ e));
}
looked_more g n None new (Err f) h (other, is) made ok err =
    let refused = other_refused g n f other err in
    record {
      free = free_more g n h.free (inr (f, refused));
      first = λ k e. subst (IsFirstBelow g (n + 1)) (same_Some f k (sym is ∙ e)) (record { place = n; inside = omega arith; before = made refl; refused = refused });
    }
looked_more g n (Some q) new (Err f) h (other, is) made ok err =
    let refused = other_refused g n f other err in
    record {
      free = free_more g n h.free (inr (f, refused));
      first = λ k e. wider g n k (h.first k (sym is ∙ e));
    }

-- what is told
pub circle_told : (g : Group SignatureText) (n : ℕ) (old : Option SigFault) (answer : Result Signature SigFault) (e : BuildFault) → AreLookedAt g n old → n < length g.texts.items →
    IfErr answer (IsRefusal g.names.items g.sources.items g.texts.items n) →
    (e ≡ fault.Memory) ⊎ ((w : Spot) × (answer ≡ Err (sig.CyclicSignature w)) × (e ≡ fault.Sig (sig.CyclicSignature w))) → IsSignaturesFault g e
circle_told g n old answer e h l err (inl m) = wanting m
circle_told g n old answer e h l err (inr (w, is, told)) = a_circle (record {
  place = n;
  word = w;
  inside = l;
  circle = subst (λ a. IfErr a (IsRefusal g.names.items g.sources.items g.texts.items n)) is err;
  before = h.free;
  is = told;
})

pub first_told : (g : Group SignatureText) (f : SigFault) (refused : Option SigFault) → refused ≡ Some f → AreLookedAt g (length g.texts.items) refused → IsSignaturesFault g (of_signature f)
first_told g f refused e h =
    let first = h.first f e in
    a_signature (record { place = first.place; cause = f; inside = first.inside; free = h.free; before = first.before; refused = first.refused; is = refl })

-- the lists that are lent
pub refused_at : (g : Group SignatureText) (place k : ℕ) (answer : Result Signature SigFault) (names : List (String Global)) (sources : List (Vec ℕ Global)) (texts : List SignatureText) →
    k ≡ place → names ≡ g.names.items → sources ≡ g.sources.items → texts ≡ g.texts.items → IfErr answer (IsRefusal names sources texts k) → IfErr
    answer (IsRefusal g.names.items g.sources.items g.texts.items place)
refused_at g place k answer names sources texts p a b c h =
    subst (λ x. IfErr answer (IsRefusal g.names.items g.sources.items g.texts.items x)) p
    (subst (λ x. IfErr answer (IsRefusal x g.sources.items g.texts.items k)) a
    (subst (λ x. IfErr answer (IsRefusal names x g.texts.items k)) b
    (subst (λ x. IfErr answer (IsRefusal names sources x k)) c h)))

pub answered_at : (g : Group SignatureText) (place : ℕ) (answer : Result Signature SigFault) (P : Signature → Type 0) →
    ((s : Signature) → P s → IsDeclaredAt g place s) → IfOk answer P → IfOk answer (IsDeclaredAt g place)
answered_at g place (Ok s) P f h = f s h
answered_at g place (Err e) P f h = h
