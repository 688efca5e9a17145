use Rattle.std.proofs.Common.{◌≡◌, ◌≤◌, [], drop}
use Rattle.std.specs.Prelude.{All}
use Rattle.lp_module.specs.Arguments.{counts_behind}
use Rattle.lp_module.proofs.sentences.has_many_arguments.Given as goal

abbrev pub invariant-loop-at : goal.invariant-loop-at
invariant-loop-at l = (counts_behind l.counts.items (drop l.at l.raw.nodes.items) ≡ counts_behind [] l.raw.nodes.items) × All (λ k. k ≤ 255) l.counts.items
