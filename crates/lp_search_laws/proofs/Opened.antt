-- The goals that stand in the place of a quantified one: terms put for indices in goals are terms put in their formula.
use Rattle.lp_proof_laws.proofs.Uniform.Settings.{IsSetting}
use Rattle.std.proofs.Common.{◌≡◌, ℕ, zero, suc, List, ◌∙◌, refl, sym, ap, subst as transport}
use mathlib.Core.Path.{fun_ext}
use Rattle.lp_calculus.specs.Types.{Ty}
use Rattle.lp_calculus.specs.Term.{Term, index, substitute}
use Rattle.lp_calculus.proofs.Sigma.{subst, instead}
use Rattle.lp_calculus.proofs.Plain.{substitute-subst}
use Rattle.lp_lemmas.specs.Each.{EachOf}
use Rattle.lp_model.specs.Pair.{Closing, closed}
use Rattle.lp_model.specs.Flat.{Goals, goal_list, instantiate_goals, formula_of_goal, formula_of_goals}
use Rattle.lp_model.specs.Flatten.{ClauseFormula}
use Rattle.lp_model.specs.Proofs.{Declared, IsFormula, Leaves}
use Rattle.lp_model.specs.Search.{opened}
use Rattle.lp_proof_laws.proofs.Uniform.Openings.{instantiate_subst}
pub use Rattle.lp_proof_laws.proofs.Flattened.Instantiated.{map_same, goals_instantiate, clause_instantiate}
use Rattle.lp_search_laws.specs.Holds.{Holds}
use Rattle.lp_search_laws.proofs.Goals.{goals_in_turn}

pub first_only : (u : Term) (f : ℕ → Term) → ((i : ℕ) → f i ≡ instead u i) → (gs : Goals) → formula_of_goals (instantiate_goals f gs) ≡ substitute u (formula_of_goals gs)
first_only u f h gs = goals_instantiate f gs ∙ instantiate_subst f (formula_of_goals gs) ∙ ap (λ g. subst g (formula_of_goals gs)) (fun_ext h) ∙ sym (substitute-subst u (formula_of_goals gs))

in_place_of : {L : Leaves} (d : Declared) → IsSetting L d → (E : List Ty) (P : List ClauseFormula) (c : Closing) (u : Term) (f : ℕ → Term) → ((i : ℕ) → f i ≡ instead u i) → (gs : Goals) → IsFormula d E (closed c (substitute u (formula_of_goals gs))) →
    (Holds L d E P c (substitute u (formula_of_goals gs)) → EachOf (λ g. Holds L d E P c (formula_of_goal g)) (goal_list (instantiate_goals f gs))) × (EachOf (λ g. Holds L d E P c (formula_of_goal g)) (goal_list (instantiate_goals f gs)) → Holds L d E P c (substitute u (formula_of_goals gs)))
in_place_of {L} d std E P c u f h gs w =
    let e = first_only u f h gs in
    let r = goals_in_turn d std E P c (instantiate_goals f gs) (transport (λ z. IsFormula d E (closed c z)) (sym e) w) in
    ((λ p. r.0 (transport (Holds L d E P c) (sym e) p)), (λ p. transport (Holds L d E P c) e (r.1 p)))

pub by_cases : (u : Term) (f : ℕ → Term) → f zero ≡ u → ((i : ℕ) → f (suc i) ≡ index i) → (i : ℕ) → f i ≡ instead u i
by_cases u f e h zero = e
by_cases u f e h (suc i) = h i

pub opened_goals : {L : Leaves} (d : Declared) → IsSetting L d → (E : List Ty) (P : List ClauseFormula) (c : Closing) (u : Term) (gs : Goals) → IsFormula d E (closed c (substitute u (formula_of_goals gs))) →
    (Holds L d E P c (substitute u (formula_of_goals gs)) → EachOf (λ g. Holds L d E P c (formula_of_goal g)) (opened u gs)) × (EachOf (λ g. Holds L d E P c (formula_of_goal g)) (opened u gs) → Holds L d E P c (substitute u (formula_of_goals gs)))
opened_goals {L} d std E P c u gs w = in_place_of d std E P c u _ (by_cases u _ refl (λ i. refl)) gs w
