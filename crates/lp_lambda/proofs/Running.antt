-- The definition as a function, for rows: parts are taken apart one after the other, in so many steps.
use Rattle.std.proofs.Common.{◌≡◌, ℕ, zero, suc, List, [], ◌∷◌, ◌++◌, refl, subst, Option, Some, None, Bool, true, false}
use Rattle.std.proofs.lemmas.Option.{none-some}
use Rattle.lp_calculus.specs.Term.{Term}
use Rattle.lp_calculus.specs.Convert.{leftmost_step}
use Rattle.lp_calculus.specs.Normal.{eta_normal}
use Rattle.lp_term.proofs.EtaForms.{form_is, forms_are_one}
use Rattle.lp_lambda.specs.Pattern.{Part, parts_of, ArePatterns, no_parts, IsPatternText}
use Rattle.lp_lambda.specs.declared.walk.Position.{Position}
use Rattle.lp_lambda.proofs.Judging.{apart, joined, broken}

abbrev run_on : Option (List Part) → (List Part → Option Bool) → Option Bool
run_on None f = Some false
run_on (Some ps) f = f ps

abbrev pub run : ℕ → List Part → Option Bool
run zero ps = None
run (suc n) [] = Some true
run (suc n) (p ∷ ps) = run_on (parts_of p) (λ qs. run n (qs ++ ps))

runs : (n : ℕ) (ps : List Part) → run n ps ≡ Some true → ArePatterns ps
runs zero ps e = absurd (none-some true e)
runs (suc n) [] e = no_parts
runs (suc n) (p ∷ ps) e = go (λ qs h. runs n (qs ++ ps) h) (parts_of p) refl e
  where
    go : ((qs : List Part) → run n (qs ++ ps) ≡ Some true → ArePatterns (qs ++ ps)) → (o : Option (List Part)) → parts_of p ≡ o → run_on o (λ qs. run n (qs ++ ps)) ≡ Some true → ArePatterns (p ∷ ps)
    go again None f h = absurd (cc)
    go again (Some qs) f h = joined p qs ps f (again qs h)

stops : (n : ℕ) (ps : List Part) → run n ps ≡ Some false → ArePatterns ps → ⊥
stops zero ps e k = absurd (none-some false e)
stops (suc n) [] e k = absurd (cc)
stops (suc n) (p ∷ ps) e k = go (λ qs h. stops n (qs ++ ps) h) (parts_of p) refl e k
  where
    go : ((qs : List Part) → run n (qs ++ ps) ≡ Some false → ArePatterns (qs ++ ps) → ⊥) → (o : Option (List Part)) → parts_of p ≡ o → run_on o (λ qs. run n (qs ++ ps)) ≡ Some false → ArePatterns (p ∷ ps) → ⊥
    go again None f h k = broken p ps f k
    go again (Some qs) f h k = again qs h (apart p qs ps f k)

abbrev pub start : Position → Term → List Part
start p t = record { position = p; binders = []; term = eta_normal t } ∷ []

-- a beta-normal text whose run says yes, and one whose run says no
pub is_text : (n : ℕ) (p : Position) (t : Term) → leftmost_step t ≡ None → run n (start p t) ≡ Some true → IsPatternText p t
is_text n p t e h = (eta_normal t, form_is 0 t t (refl, e), runs n (start p t) h)

pub is_no_text : (n : ℕ) (p : Position) (t : Term) → leftmost_step t ≡ None → run n (start p t) ≡ Some false → IsPatternText p t → ⊥
is_no_text n p t e h k =
    stops n (start p t) h (subst (λ z. ArePatterns (record { position = p; binders = []; term = z } ∷ [])) (forms_are_one t k.0 (eta_normal t) k.1 (form_is 0 t t (refl, e))) k.2)
