use Rattle.std.proofs.Common.{arith, ap, length, subst}
use Rattle.std.proofs.lemmas.List.{take_all, length_push}
use Rattle.lp_link.specs.inner.Parts.{map_in, AddsMoved}
use Rattle.lp_link.proofs.Remade.{none_added, next_added}
use Rattle.lp_link.proofs.image.add_records.Goals as goal

pub loop-at-init : goal.loop-at-init
loop-at-init c = (omega arith, none_added (map_in c.args.numbers.now) c.args.numbers.now.first c.args.of.now c.args.records.now.items)

pub loop-at-preserved : goal.loop-at-preserved
loop-at-preserved c = (
  let l = length_push c.loop-at.records.items c.in_ok-record.field-0 in let e = ap length c.in_ok-push.ensures.items in let i = c.loop-at.invariant.0 in omega (arith, l, e, i),
  next_added c.args.numbers.now c.args.of.now c.args.records.now.items c.loop-at.records.items c.push.new.self.items c.loop-at.at c.index-of-at.result c.in_ok-record.field-0
      (omega (arith, c.loop-at-test.true)) c.index-of-at.is c.in_ok-record.ensures c.in_ok-push.ensures.items c.loop-at.invariant.1,
)

pub returns-clause-moved : goal.returns-clause-moved
returns-clause-moved c =
    subst (λ l. AddsMoved (map_in c.args.numbers.now) c.args.numbers.now.first l c.args.records.now.items c.loop-at.records.items) (take_all c.loop-at.at c.args.of.now (omega (arith, c.loop-at-test.false))) c.loop-at.invariant.1
