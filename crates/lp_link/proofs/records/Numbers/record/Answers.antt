use Rattle.std.proofs.Common.{arith, refl, subst}
use Rattle.std.proofs.lemmas.List.{take_all}
use Rattle.lp_link.specs.inner.Parts.{map_in}
use Rattle.lp_link.specs.Renumbering.{AllMoved}
use Rattle.lp_link.proofs.Remaking.{next_moved}
use Rattle.lp_link.proofs.records.Numbers.record.Goals as goal

pub loop-at-preserved : goal.loop-at-preserved
loop-at-preserved c =
    next_moved c.args.self.now c.args.of.now.code.items c.loop-at.code.items c.push.new.self.items c.loop-at.at c.index.result.now c.in_ok-instruction.field-0
    (omega (arith, c.loop-at-test.true, c.len-at-end.ensures, c.args.of.now.code.ok)) c.index.ensures c.in_ok-instruction.ensures c.in_ok-push.ensures.items c.loop-at.invariant

pub returns : goal.returns
returns c = λ room. record {
  program = refl;
  head = c.head.ensures;
  captured_types = refl;
  captured = refl;
  types = refl;
  registers = refl;
  key = c.in_ok-key.ensures;
  code = subst (λ l. AllMoved (map_in c.args.self.now) c.args.self.now.first l c.loop-at.code.items)
      (take_all c.loop-at.at c.args.of.now.code.items (omega (arith, c.loop-at-test.false, c.len-at-end.ensures))) (c.loop-at.invariant room);
}
