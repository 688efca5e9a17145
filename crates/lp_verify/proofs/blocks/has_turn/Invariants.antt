use Rattle.std.proofs.Common.{◌≡◌, drop}
use Rattle.std.specs.List.{list_any}
use Rattle.lp_verify.specs.inner.Sides.{is_turn}
use Rattle.lp_verify.proofs.blocks.has_turn.Given as goal

abbrev pub invariant-loop-instr : goal.invariant-loop-instr
invariant-loop-instr l = list_any is_turn (drop l.instr-index l.fn.code) ≡ list_any is_turn l.fn.code
