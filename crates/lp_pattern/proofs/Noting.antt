-- What a scan notes of a pattern.
use Rattle.std.proofs.Common.{◌≡◌, ℕ, List, [], ◌∷◌, ◌∙◌, refl, sym, ap, subst as transport, Bool, true, false, ◌||◌, if◌then◌else◌, arith}
use Rattle.std.specs.Prelude.{◌&&◌, nat_le, nat_lt, not}
use Rattle.std.proofs.lemmas.Bool.Decides.{nat_tests}
use Rattle.lp_model.specs.Scan.{Side, is_side, allow, fits, pattern, broken, whole, scanned_pattern}
use Rattle.lp_pattern.specs.declared.scan.Scanned.{Scanned as Noted}
use Rattle.lp_pattern.specs.Scanning.{Adds, IsBroken}

above_is : (l m : ℕ) → nat_lt l m ≡ not (nat_le m l)
above_is l m = grind (arith, nat_tests)

delays : (o side le al lt : Bool) → lt ≡ not le → ((o || side) || not (le && al)) ≡ (o || (side || lt || not al))
delays true side le al lt e = refl
delays false true le al lt e = refl
delays false false true al lt e = λ i. sym e i || not al
delays false false false al lt e = λ i. sym e i || not al

fits_then : (o side fit : Bool) → ((o || side) || not fit) ≡ false → fit ≡ true
fits_then true side fit e = absurd (cc)
fits_then false true fit e = absurd (cc)
fits_then false false true e = refl
fits_then false false false e = absurd (cc)

pub or_false : (o : Bool) → o ≡ (o || false)
or_false true = refl
or_false false = refl

and_true : (o : Bool) → o ≡ (o && true)
and_true true = refl
and_true false = refl

pub noted_inside : (s : Side) (old new : Noted) (y m : ℕ) (b : List ℕ) (side fit : Bool) → side ≡ is_side s y m → fit ≡ (nat_le m s.level && allow s b) → new.is_delayed ≡ ((old.is_delayed || side) || not fit) →
    new.has_misfit ≡ old.has_misfit → Adds s old new (scanned_pattern s true y m b)
noted_inside s old new y m b side fit p q e f = (
  e ∙ (λ i. (old.is_delayed || p i) || not (q i)) ∙ delays old.is_delayed (is_side s y m) (nat_le m s.level) (allow s b) (nat_lt s.level m) (above_is s.level m),
  λ d.
      let t : fit ≡ true = fits_then old.is_delayed side fit (sym e ∙ d) in
      f ∙ or_false old.has_misfit ∙ ap (λ x. old.has_misfit || not x) (sym t ∙ q ∙ and_true (fits s (pattern y m b))),
)

pub noted_outside : (s : Side) (old new : Noted) (y m : ℕ) (b : List ℕ) (side fit : Bool) → side ≡ is_side s y m → side ≡ false → fit ≡ (nat_le m s.level && allow s b) → new.is_delayed ≡ old.is_delayed →
    new.has_misfit ≡ (old.has_misfit || not fit) → Adds s old new (scanned_pattern s false y m b)
noted_outside s old new y m b side fit p z q e f =
    transport (λ x. Adds s old new (if x then broken 1 else whole 1 false (pattern y m b ∷ []))) (sym z ∙ p)
    (e ∙ or_false old.is_delayed, λ d. f ∙ ap (λ x. old.has_misfit || not x) (q ∙ and_true (fits s (pattern y m b))))

pub broken_outside : (s : Side) (y m : ℕ) (b : List ℕ) (side : Bool) → side ≡ is_side s y m → side ≡ true → IsBroken (scanned_pattern s false y m b)
broken_outside s y m b side p z = transport (λ x. IsBroken (if x then broken 1 else whole 1 false (pattern y m b ∷ []))) (sym z ∙ p) tt
