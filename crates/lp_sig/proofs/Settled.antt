-- Where each abbreviation has a body, each part of a type without fault has a type.
use Rattle.std.proofs.Common.{◌≡◌, ℕ, ◌<◌, List, [], ◌∷◌, ◌++◌, Bool, true, false, length, get_or, Option, Some, None, refl, sym, ap, subst, ◌∙◌, true≢false}
use Rattle.std.specs.Prelude.{is_some, All, nat_le, if◌then◌else◌}
use Rattle.std.proofs.lemmas.List.Elements.{All-nil, All-push, All-get_or}
use Rattle.lp_term.specs.declared.node.TypeId.{TypeId}
use Rattle.lp_sig.specs.Words.{earlier_of}
use Rattle.lp_sig.specs.Constants.{AllMade}
use Rattle.lp_sig.specs.declared.fault.SigFault.{SigFault}

pub no_type : {X : Type 0} (o : Option X) → o ≡ None → is_some o ≡ true → ⊥
no_type o e f = true≢false (sym f ∙ ap is_some e)

pub not_made : (done : List (Option TypeId)) (place : ℕ) (x : Option TypeId) → place < length done → x ≡ get_or done place x → x ≡ None → AllMade done → ⊥
not_made done place x l at none all = no_type x none (ap is_some at ∙ All-get_or (λ o. is_some o ≡ true) done place x l all)

pub made_more : (old new : List (Option TypeId)) (o : Option TypeId) → AllMade old → is_some o ≡ true → new ≡ old ++ o ∷ [] → AllMade new
made_more old new o all some is = subst (All (λ o. is_some o ≡ true)) (sym is) (All-push (λ o. is_some o ≡ true) old o all some)

pub nothing_made : (done : List (Option TypeId)) → done ≡ [] → AllMade done
nothing_made done is = subst (All (λ o. is_some o ≡ true)) (sym is) (All-nil (λ o. is_some o ≡ true))

-- the earlier of two faults is none where there is none
pub neither : (a b : Option (ℕ × SigFault)) → earlier_of a b ≡ None → (a ≡ None) × (b ≡ None)
neither None b e = (refl, e)
neither (Some x) None e = absurd (cc)
neither (Some x) (Some y) e = by (nat_le x.0 y.0) e
  where
    by : (t : Bool) → (if t then Some x else Some y) ≡ None → (Some x ≡ None) × (Some y ≡ None)
    by true f = absurd (cc)
    by false f = absurd (cc)
