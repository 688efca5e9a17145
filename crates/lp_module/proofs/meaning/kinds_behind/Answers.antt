use Rattle.std.proofs.Common.{◌≡◌, ◌+◌, ◌∙◌, ap, arith}
use Rattle.std.specs.List.{range_with_len}
use Rattle.lp_module.proofs.Saying.{range_more}
use Rattle.lp_module.proofs.meaning.kinds_behind.Goals as goal

pub loop-at-preserved : goal.loop-at-preserved
loop-at-preserved c =
    let is : c.kind_number-number.result ≡ 8 + c.args.exported + c.loop-at.at = omega (arith, c.kind_number-number.ensures) in
    range_more (8 + c.args.exported) c.loop-at.at c.loop-at.numbers.items c.push.new.self.items _ c.loop-at.invariant c.in_ok-push.ensures.items is

pub kind_number-number-requires-clause-numbered : goal.kind_number-number-requires-clause-numbered
kind_number-number-requires-clause-numbered c = c.requires

pub kind_number-number-requires-clause-at : goal.kind_number-number-requires-clause-at
kind_number-number-requires-clause-at c = omega (arith, c.loop-at-test.true, c.saturating_sub-count.ensures)

pub returns : goal.returns
returns c = c.loop-at.invariant ∙ ap (range_with_len (8 + c.args.exported)) (omega (arith, c.loop-at-test.false, c.loop-at.auto.at-end, c.saturating_sub-count.ensures))
