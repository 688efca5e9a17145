use Rattle.std.proofs.Common.{ℕ, take}
use Rattle.std.specs.Prelude.{All}
use Rattle.lp_calculus.specs.Types.{Ty}
use Rattle.lp_term.specs.Nodes.{Extends}
use Rattle.lp_pattern.specs.Under.{AreTypes}
use Rattle.lp_plain.specs.Renewal.{new_number}
use Rattle.lp_plain.specs.Standings.{IsTypeJudged}
use Rattle.lp_plain.specs.declared.openness.Openness.TheVariants.{Closed}
use Rattle.lp_plain.proofs.openness.openness_of_types.Given as goal

abbrev pub invariant-types : goal.invariant-types
invariant-types l = Extends l.fn.bank l.bank × ((θ : ℕ → Ty) → AreTypes l.fn.bank l.bindings θ → All (λ x. IsTypeJudged Closed (θ (new_number l.fn.types x))) (take l.variable-index l.variables))
