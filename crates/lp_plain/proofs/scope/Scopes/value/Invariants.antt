use Rattle.std.proofs.Common.{ℕ, List, take}
use Rattle.lp_term.specs.declared.node.TermId.{TermId}
use Rattle.lp_plain.specs.Scopes.{IsScope, IsOnWay, blocks_to}
use Rattle.lp_plain.proofs.scope.Scopes.value.Given as goal

abbrev pub invariant-outwards : goal.invariant-outwards
invariant-outwards l = (nb nv : ℕ) → (vs : List TermId) → IsScope l.self nb nv l.fn.scope vs → IsOnWay l.self.blocks.items (take nv l.self.values.items) vs l.fn.index l.at l.left

abbrev pub decreases-outwards : goal.decreases-outwards
decreases-outwards l = blocks_to l.at
