-- On typed input the definition comes to an outcome, so what the code says of each outcome holds of it.
use Rattle.std.proofs.Common.{◌≡◌, ℕ, List, Some, subst as transport}
use Rattle.lp_calculus.specs.Types.{var}
use Rattle.lp_term.specs.Nodes.{Nodes}
use Rattle.lp_term.specs.declared.node.TypeId.{TypeId}
use Rattle.lp_model.specs.Answers.{Variable}
use Rattle.lp_model.specs.Proofs.{Declared}
use Rattle.lp_model.specs.Unify.{Unified, solve}
use Rattle.lp_model.specs.declared.answer.Pair.{Pair as Numbers}
use Rattle.lp_unify_laws.proofs.Termination.Pruning.{prunes_typed}
use Rattle.lp_unify_laws.proofs.Termination.Runs.{solve_comes}
use Rattle.lp_pattern.specs.Reading.{type_pairs_of}
use Rattle.lp_pattern.specs.Unifying.{pairs_at, run, ComesToOutcome, IsTypedRun}

pub typed_comes : (d : Declared) (V : List Variable) (limit : ℕ) (b : Nodes) (types : List (TypeId × TypeId)) (ps ds : List Numbers) (next : ℕ) → IsTypedRun d V b types ps ds next → (P : (steps : ℕ) → Unified → Type 0) →
    ((n : ℕ) (u : Unified) → run n limit b types ps ds next ≡ Some u → P n u) → ComesToOutcome limit b types ps ds next P
typed_comes d V limit b types ps ds next t P f =
    let r = solve_comes d (prunes_typed d) V (type_pairs_of b var types) (pairs_at b ps) (pairs_at b ds) t.typed limit in
    let e = transport (λ j. solve r.0 limit (type_pairs_of b var types) (pairs_at b ps) (pairs_at b ds) j ≡ Some r.1) t.count r.2 in
    record { steps = r.0; outcome = r.1; comes = e; is = f r.0 r.1 e }
