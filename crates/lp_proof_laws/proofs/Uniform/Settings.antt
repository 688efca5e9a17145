-- Leaves that stand where formulas convert, where clauses that are assumed together are assumed each on its own, the first one last, and where formulas give way to
-- what they flatten to.
use Rattle.std.proofs.Common.{◌≡◌, ℕ, List, [], ◌∷◌, ◌++◌, Some}
use Rattle.std.specs.Prelude.{Bool}
use Rattle.lp_calculus.specs.Types.{Ty}
use Rattle.lp_calculus.specs.Term.{Term}
use Rattle.lp_standard.specs.Schemes.{IsStandard}
use Rattle.lp_model.specs.Index.{instantiate}
use Rattle.lp_model.specs.Flat.{Goals, no_goals, Clauses, clause_list, formula_of_goals, formula_of_clauses}
use Rattle.lp_model.specs.Flatten.{ClauseFormula, flat_goal, flat_clause}
use Rattle.lp_model.specs.Pair.{Closing, closed}
use Rattle.lp_model.specs.Proofs.{Declared, IsFormula, Failure, Leaves, assumed, no_leaf}
use Rattle.lp_calculus.specs.Typing.{o_type}
use Rattle.lp_proof_laws.specs.Assumed.{assumed_at}
use Rattle.lp_proof_laws.specs.Open.{IsOpen, Fits}
use Rattle.lp_proof_laws.proofs.Uniform.Assumptions.{AreKept}
use Rattle.lp_proof_laws.proofs.Uniform.Roots.{Converting, nothing_kept}

pub record IsSetting (L : Leaves) (d : Declared) : Type 0 where
  pub standard : IsStandard d
  pub converting : (P : List ClauseFormula) → Converting L d P
  pub apart : (E : List Ty) (P : List ClauseFormula) (c : Closing) (cs : Clauses) → IsFormula d E (closed c (formula_of_clauses cs)) → AreKept L E (P ++ assumed (closed c (formula_of_clauses cs)) ∷ []) (P ++ assumed_at c (clause_list cs))
  pub together : (E : List Ty) (P : List ClauseFormula) (c : Closing) (cs : Clauses) → IsFormula d E (closed c (formula_of_clauses cs)) → AreKept L E (P ++ assumed_at c (clause_list cs)) (P ++ assumed (closed c (formula_of_clauses cs)) ∷ [])
  pub flat_goals : (n : ℕ) (binders : List Bool) (t : Term) (gs : Goals) → flat_goal n d binders t no_goals ≡ Some gs → (E Γ : List Ty) (θ : ℕ → Term) → IsOpen d Γ t o_type → Fits d E Γ θ → (P : List ClauseFormula) (f : Failure) →
      (L E P (instantiate θ t) f → L E P (instantiate θ (formula_of_goals gs)) f) × (L E P (instantiate θ (formula_of_goals gs)) f → L E P (instantiate θ t) f)
  pub flat_clauses : (n : ℕ) (binders : List Bool) (t : Term) (cs : Clauses) → flat_clause n d binders t [] [] ≡ Some cs → (E Γ : List Ty) (θ : ℕ → Term) → IsOpen d Γ t o_type → Fits d E Γ θ → (P : List ClauseFormula) →
      AreKept L E (P ++ assumed (instantiate θ t) ∷ []) (P ++ assumed (instantiate θ (formula_of_clauses cs)) ∷ []) × AreKept L E (P ++ assumed (instantiate θ (formula_of_clauses cs)) ∷ []) (P ++ assumed (instantiate θ t) ∷ [])

-- without leaves
pub without_leaves : (d : Declared) → IsStandard d → IsSetting no_leaf d
without_leaves d std = record {
  standard = std;
  converting = nothing_kept d;
  apart = λ E P c cs g S n x H f h. h;
  together = λ E P c cs g S n x H f h. h;
  flat_goals = λ n B t gs e E Γ θ o w P f. ((λ h. h), (λ h. h));
  flat_clauses = λ n B t cs e E Γ θ o w P. ((λ S m x H f h. h), (λ S m x H f h. h));
}
