use Rattle.std.proofs.Common.{◌^◌}
use Rattle.std.specs.Prelude.{All}
use Rattle.lp_term.specs.Nodes.{tree}
use Rattle.lp_term.specs.Spine.{LooseBelow}
use Rattle.lp_pattern.proofs.look.are_below.Given as goal

abbrev pub invariant-loop-term : goal.invariant-loop-term
invariant-loop-term l = All (λ t. LooseBelow (2 ^ 32) 0 (tree l.bank t.0)) l.yielded
