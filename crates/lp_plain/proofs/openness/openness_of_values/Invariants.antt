use Rattle.std.proofs.Common.{ℕ, List, take}
use Rattle.std.specs.Prelude.{All}
use Rattle.lp_term.specs.Nodes.{Extends}
use Rattle.lp_term.specs.declared.node.TermId.{TermId}
use Rattle.lp_model.specs.Pair.{Closing}
use Rattle.lp_pattern.specs.Stripping.{IsShut}
use Rattle.lp_pattern.specs.Under.{IsReading}
use Rattle.lp_plain.specs.Scopes.{IsScope}
use Rattle.lp_plain.specs.Standings.{OfIndex}
use Rattle.lp_plain.specs.declared.openness.Openness.TheVariants.{Closed}
use Rattle.lp_plain.proofs.openness.openness_of_values.Given as goal

abbrev pub invariant-values : goal.invariant-values
invariant-values l = Extends l.fn.bank l.bank × ((c : Closing) → IsReading l.fn.bank l.around.bindings.now c → IsShut c → (nb nv : ℕ) → (vs : List TermId) → IsScope l.around.scopes.now nb nv l.scope vs →
    All (OfIndex l.fn.bank c vs Closed) (take l.variable-index l.variables))
