-- Type equations come to an outcome: lp_type_laws solves the same equations turn by turn, and that ends.
use Rattle.std.proofs.Common.{◌≡◌, ◌≢◌, ℕ, zero, suc, ◌+◌, List, [], ◌∷◌, ◌++◌, map, refl, sym, ap, ◌∙◌}
use Rattle.lp_calculus.specs.Types.{Ty, var, instance}
use Rattle.lp_type_laws.specs.Equations.{one}
use Rattle.lp_type_laws.specs.Solving.{unfinished, solve}
use Rattle.lp_type_laws.proofs.Counts.{after_turn}
use Rattle.lp_type_laws.proofs.Ends.{solve_ends}
use Rattle.lp_model.specs.Types.{TypePair, TypeBinding, put_in_pair, TypeVerdict, differ, bound, type_rule, TypeOutcome, none, solved, solve_types}
use Rattle.lp_model.specs.Types as model
use Rattle.lp_unify_laws.specs.TypeSolutions.{equations}
use Rattle.lp_unify_laws.proofs.TypeTurns.{as_turn, equations_append, equations_put, behind, definition_turn, solving_turn}
use Rattle.lp_unify_laws.proofs.Termination.Comes.{Comes}

types_with : (m : ℕ) (ps : List TypePair) (made : List TypeBinding) (u : ℕ) (θ : ℕ → Ty) → solve m (equations ps) θ ≢ unfinished → Comes (λ n. solve_types n ps made u)
types_with m [] made u θ h = (1, solved made u, refl)
types_with zero (p ∷ ps) made u θ h = absurd (h refl)
types_with (suc m) (p ∷ ps) made u θ h =
    go (type_rule p.left p.right).verdict refl (λ e. h (solving_turn m p ps θ ∙ e)) (λ qs made v ι k. types_with m qs made v ι k)
  where
    v : ℕ
    v = suc u + (type_rule p.left p.right).units

    go : (w : TypeVerdict) → (type_rule p.left p.right).verdict ≡ w → after_turn m (as_turn (type_rule p.left p.right).verdict (equations ps) θ) ≢ unfinished →
        ((qs : List TypePair) (made : List TypeBinding) (v : ℕ) (ι : ℕ → Ty) → solve m (equations qs) ι ≢ unfinished → Comes (λ n. solve_types n qs made v)) → Comes (λ n. solve_types n (p ∷ ps) made u)
    go differ e k ι = (1, none v, definition_turn 0 p ps made u ∙ ap (behind 0 ps made v) e)
    go (model.parts qs) e k ι =
        let r = ι (qs ++ ps) made v θ (λ i. k (ap (λ z. after_turn m (as_turn z (equations ps) θ)) e ∙ sym (ap (λ z. solve m z θ) (equations_append qs ps)) ∙ i)) in
        (suc r.0, r.1, definition_turn r.0 p ps made u ∙ ap (behind r.0 ps made v) e ∙ r.2)
    go (bound b) e k ι =
        let θ' : ℕ → Ty = (λ i. instance (one b.id b.value) (θ i)) in
        let r = ι (map (put_in_pair b) ps) (made ++ b ∷ []) v θ' (λ i. k (ap (λ z. after_turn m (as_turn z (equations ps) θ)) e ∙ sym (ap (λ z. solve m z θ') (equations_put b ps)) ∙ i)) in
        (suc r.0, r.1, definition_turn r.0 p ps made u ∙ ap (behind r.0 ps made v) e ∙ r.2)

pub types_come : (ps : List TypePair) → Comes (λ n. solve_types n ps [] 0)
types_come ps = let r = solve_ends (equations ps) var in types_with r.0 ps [] 0 var r.1
