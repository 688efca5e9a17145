-- An equality through the unifier: where it fails no closing makes the equality hold, and what it leaves has the closings that do.
use Rattle.lp_proof_laws.proofs.Uniform.Settings.{IsSetting}
use Rattle.std.proofs.Common.{◌≡◌, ℕ, List, [], ◌∷◌, map, length, Some}
use Rattle.lp_calculus.specs.Types.{Ty, instance}
use Rattle.lp_calculus.specs.Term.{Term}
use Rattle.lp_model.specs.Pair.{Pair, Closing, closed, SolvesAll}
use Rattle.lp_model.specs.Unify.{State, Fail, Solution, solve}
use Rattle.lp_standard.specs.Connectives.{two}
use Rattle.lp_model.specs.Flatten.{ClauseFormula}
use Rattle.lp_model.specs.Proofs.{Declared, IsFormula, Leaves}
use Rattle.lp_model.specs.Answers.{Variable, Closes}
use Rattle.lp_unify_laws.specs.TypeSolutions.{Satisfies}
use Rattle.lp_unify_laws.specs.Solutions.{instance_binding, IsTypedInput, closed_variables, through_bindings, AreStuck}
use Rattle.lp_unify_laws.proofs.Trimmed.{closings_have_none}
use Rattle.lp_search_laws.specs.Holds.{Holds, equation, EqualityHolds}
use Rattle.lp_unify_laws.proofs.Principal.{closings_are_the_same}
use Rattle.lp_calculus.specs.Instance.{instance_term}
use Rattle.lp_search_laws.proofs.Connectives.{equal_holds}

pub refused_equalities : {L : Leaves} (d : Declared) → IsSetting L d → (V : List Variable) (E : List Ty) (P : List ClauseFormula) (n limit k : ℕ)
    (T : Ty) (l r : Term) (ds : List Pair) (c : Closing) → IsTypedInput c.types d (closed_variables c V) [] (equation l r k) ds → solve n limit []
    (equation l r k) ds (length V) ≡ Some Fail → Closes d V c → SolvesAll c ds → IsFormula d E (closed c (two 8 (T ∷ []) l r)) → Holds L d E P c
    (two 8 (T ∷ []) l r) → ⊥
refused_equalities {L} d std V E P n limit k T l r ds c i e h s f p =
    closings_have_none d V n limit [] (equation l r k) ds c i e (record { closes = h; types = tt; pairs = ((equal_holds d std E P c T l r f).0 p, tt); delayed = s })

pub equalities_are_solved : {L : Leaves} (d : Declared) → IsSetting L d → (V : List Variable) (E : List Ty) (P : List ClauseFormula) (n limit k : ℕ)
    (T : Ty) (l r : Term) (ds : List Pair) (s : State) (θ : ℕ → Ty) → IsTypedInput θ d V [] (equation l r k) ds → solve n limit [] (equation l r k) ds
    (length V) ≡ Some (Solution s) → AreStuck n ds → Satisfies θ s.types → EqualityHolds L θ d V E P T l r ds s
equalities_are_solved {L} d std V E P n limit k T l r ds s θ i e q m =
    let h = closings_are_the_same d V n limit [] (equation l r k) ds s θ i e q m in
    record {
      typings = h.typings;
      keeps = λ c z x f p. h.keeps c z ((equal_holds d std E P c (instance θ T) (instance_term θ l) (instance_term θ r) f).0 p, tt) x;
      gives = λ c z x f.
          let w = h.adds_none c z x in
          ((equal_holds d std E P (through_bindings (map (instance_binding θ) s.bindings) c) (instance θ T) (instance_term θ l) (instance_term θ r) f).1 w.0.0, w.1);
    }
