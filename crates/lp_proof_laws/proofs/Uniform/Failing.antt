-- A failing search stands as a leaf of each goal that its goal converts to, and where an assumption gives way to one that it converts to.
use Rattle.std.proofs.Common.{ℕ, ◌≤◌, List, [], ◌∷◌, ◌++◌, length, sym, subst, ◌∙◌, append_assoc}
use Rattle.std.specs.Prelude.{drop}
use Rattle.std.proofs.lemmas.List.{take-append-le, drop-append-le}
use Rattle.lp_calculus.specs.Types.{Ty}
use Rattle.lp_calculus.specs.Term.{Term}
use Rattle.lp_calculus.specs.Convert.{Converts}
use Rattle.lp_calculus.proofs.Steps.{converts_on}
use Rattle.lp_model.specs.Flat.{Goals, Clauses}
use Rattle.lp_model.specs.Variables.{Variable}
use Rattle.lp_model.specs.Flatten.{ClauseFormula}
use Rattle.lp_model.specs.Proofs.{Declared, Failure, IsFailure, StandsForGoal, StandsForClause, StandForClauses, AreFlattened, assumed}
use Rattle.lp_proof_laws.proofs.Uniform.Assumptions.{AreKept}
use Rattle.lp_proof_laws.proofs.Uniform.Roots.{Converting}

goal_stands : (d : Declared) (E : List Ty) (V : List Variable) (i : ℕ) (G H : Term) (gs : Goals) → Converts G H → StandsForGoal d E V i G gs → StandsForGoal d E V i H gs
goal_stands d E V i G H gs c s = record { filling = s.filling; is_filling = s.is_filling; formula = s.formula; typed = s.typed; converts = converts_on s.converts c; depth = s.depth; flat = s.flat; flattened = s.flattened; is = s.is }

clause_stands : (d : Declared) (E : List Ty) (V : List Variable) (i : ℕ) (D R : Term) (cs : Clauses) → Converts D R → StandsForClause d E V i D cs → StandsForClause d E V i R cs
clause_stands d E V i D R cs c s = record { filling = s.filling; is_filling = s.is_filling; formula = s.formula; typed = s.typed; converts = converts_on s.converts c; depth = s.depth; flat = s.flat; flattened = s.flattened; is = s.is }

behind : (d : Declared) (E : List Ty) (V : List Variable) (i : ℕ) (Q S : List ClauseFormula) (D R : Term) (css : List Clauses) → Converts D R → StandForClauses d E V i (Q ++ assumed D ∷ S) css → StandForClauses d E V i (Q ++ assumed R ∷ S) css
behind d E V i [] S D R [] c h = h
behind d E V i [] S D R (cs ∷ css) c h = (clause_stands d E V i D R cs c h.0, h.1)
behind d E V i (q ∷ Q) S D R [] c h = h
behind d E V i (q ∷ Q) S D R (cs ∷ css) c h = (h.0, behind d E V i Q S D R css c h.1)

module _ (d : Declared) (k : ℕ) where
  goal_fails : (E : List Ty) (P : List ClauseFormula) (G H : Term) (f : Failure) → Converts G H → IsFailure d k E P G f → IsFailure d k E P H f
  goal_fails E P G H f c h = record { variables = h.variables; goals = goal_stands d E f.variables f.next_type G H f.goals c h.goals; assumed = h.assumed; program = h.program; ends = h.ends; gives_none = h.gives_none }

  module _ (P : List ClauseFormula) (l : k ≤ length P) where
    kept : (S : List ClauseFormula) (D R : Term) (E : List Ty) (G : Term) (f : Failure) → Converts D R → IsFailure d k E (P ++ assumed D ∷ S) G f → IsFailure d k E (P ++ assumed R ∷ S) G f
    kept S D R E G f c h = record {
      variables = h.variables;
      goals = h.goals;
      assumed = subst (λ Q. StandForClauses d E f.variables f.next_type Q f.assumed) (sym (drop-append-le k P (assumed R ∷ S) l))
          (behind d E f.variables f.next_type (drop k P) S D R f.assumed c (subst (λ Q. StandForClauses d E f.variables f.next_type Q f.assumed)
          (drop-append-le k P (assumed D ∷ S) l) h.assumed));
      program = subst (λ Q. AreFlattened d Q f.program) (take-append-le k P (assumed D ∷ S) l ∙ sym (take-append-le k P (assumed R ∷ S) l)) h.program;
      ends = h.ends;
      gives_none = h.gives_none;
    }

    assumption_fails : (F : List Ty) (D R : Term) → Converts D R → AreKept (IsFailure d k) F (P ++ assumed D ∷ []) (P ++ assumed R ∷ [])
    assumption_fails F D R c S E x G f h =
        subst (λ Q. IsFailure d k E Q G f) (sym (append_assoc P (assumed R ∷ []) S)) (kept S D R E G f c (subst (λ Q. IsFailure d k E Q G f) (append_assoc P (assumed D ∷ []) S) h))

    pub failures_convert : Converting (IsFailure d k) d P
    failures_convert = record { goals = λ E Q G H f g g' c h. goal_fails E Q G H f c h; assumptions = λ E D R g g' c. assumption_fails E D R c }
