-- Assumed records start with what stands around and in their clauses.
use Rattle.std.proofs.Common.{◌≡◌, ◌∙◌, ◌≤◌, ◌<◌, ℕ, ◌-◌, [], Bool, true, false, true≢false, Option, Some, None, ap, refl, sym, subst, arith}
use Rattle.std.specs.Prelude.{nat_lt, if◌then◌else◌, slice_get}
use Rattle.std.proofs.lemmas.Bool.{le-leb, ltb-true, ltb-false}
use Rattle.std.proofs.lemmas.Option.{slice_get_past}
use Rattle.lp_model.specs.Flat.{Clauses}
use Rattle.lp_code.specs.States.{member}
use Rattle.lp_gen.specs.Steps.{Seen, Around, at_level}
use Rattle.lp_gen.specs.Registers.{in_clauses, count_variables, start_of}
use Rattle.lp_gen.specs.declared.plan.Assumption.{Assumption}
use Rattle.lp_gen.specs.inner.TermLaw.{AreSet}
use Rattle.lp_gen.specs.inner.Bodies.{new_level}
use Rattle.lp_gen.specs.inner.BodyCode.{AreStarts, levels_found}
use Rattle.lp_gen.specs.inner.Planned.{AreCaptured, AreOnly}
use Rattle.lp_gen.specs.inner.Alike.{SameSeen, IsAlike}
use Rattle.lp_gen.proofs.StandsIn.{key_low, key_stands}
use Rattle.lp_gen.proofs.RecordBegins.{found_at}
use Rattle.lp_gen.proofs.StartsPut.{found_among}

no_seen : (v : Seen) → ◌≡◌ {A = Option Seen} None (Some v) → ⊥
no_seen v e = cc

one_seen : (o : Option Seen) (v w : Seen) → o ≡ Some v → o ≡ Some w → v ≡ w
one_seen o v w e f = cc

past_none : (a : Around) (l : ℕ) → new_level a ≤ l → at_level a l ≡ None
past_none a l le =
    ap (λ t. if t then slice_get a.own (l - a.base) else a.captured l) (le-leb a.base l (omega (arith, le))) ∙ slice_get_past a.own (l - a.base) (omega (arith, le))

module _ (x : Assumption) (cs : Clauses) (a : Around) (f : ℕ → Option Seen) (k : ℕ) (all : AreCaptured x cs) (only : AreOnly x cs) (base : new_level a ≡ x.base) (set : AreSet a)
    (starts : AreStarts a (levels_found a x.captured.keys) f k) where
  none_at : (l : ℕ) → ((v : Seen) → f l ≡ Some v → ⊥) → (o : Option Seen) → SameSeen None o → SameSeen (f l) o
  none_at l never o s = go (f l) refl
    where
      go : (p : Option Seen) → f l ≡ p → SameSeen p o
      go None e = s
      go (Some v) e = absurd (never v e)

  kept : (l : ℕ) (v : Seen) → f l ≡ Some v → member l x.captured.keys ≡ true
  kept l v e = let w = starts.only l v e in found_among a x.captured.keys w.0 l w.1

  around_there : (l : ℕ) (v : Seen) → f l ≡ Some v → (w : Seen) × (at_level a l ≡ Some w)
  around_there l v e = let i = starts.only l v e in let w = starts.given i.0 l i.1 in (w.0, w.1)

  inside : (l : ℕ) → l < x.base → (t : Bool) → member l x.captured.keys ≡ t → (o : Option Seen) → at_level a l ≡ o → SameSeen (f l) (if t then o else None)
  inside l low false e o at = none_at l (λ v is. absurd (true≢false (sym (kept l v is) ∙ e))) None tt
  inside l low true e None at = none_at l (λ v is. let w = around_there l v is in no_seen w.0 (sym at ∙ w.1)) None tt
  inside l low true e (Some v) at =
      let i = found_at a x.captured.keys l v e at in
      let w = starts.given i.0 l i.1 in
      subst (λ p. SameSeen p (Some v)) (sym w.2) (ap (λ (u : Seen). u.of) (one_seen (at_level a l) w.0 v w.1 at), sym (set l v at))

  outside : (l : ℕ) → x.base ≤ l → (t : Bool) → SameSeen (f l) (if t then at_level a l else None)
  outside l high t = none_at l (λ v is. let z = key_low x cs only l (kept l v is) in absurd (omega (arith, z, high))) (if t then at_level a l else None) (none t)
    where
      none : (t : Bool) → SameSeen None (if t then at_level a l else None)
      none true = subst (SameSeen None) (sym (past_none a l (omega (arith, high, base)))) tt
      none false = tt

  pub started_alike : IsAlike (record { own = []; base = x.base; captured = f }) (start_of a cs)
  started_alike = record { base = sym base; own = tt; captured = λ l. go l (nat_lt l x.base) refl }
    where
      go : (l : ℕ) (t : Bool) → nat_lt l x.base ≡ t → SameSeen (f l) (if in_clauses (count_variables a - l - 1) cs then at_level a l else None)
      go l true e =
          let low = ltb-true l x.base e in
          subst (λ n. SameSeen (f l) (if in_clauses (n - l - 1) cs then at_level a l else None)) (sym base)
          (inside l low (in_clauses (x.base - l - 1) cs) (key_stands x cs all only l low) (at_level a l) refl)
      go l false e = outside l (ltb-false l x.base e) (in_clauses (count_variables a - l - 1) cs)
