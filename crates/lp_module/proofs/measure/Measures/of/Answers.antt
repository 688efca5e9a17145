use Rattle.std.proofs.Common.{sym, ap, arith, length, [], ◌∷◌}
use Rattle.std.proofs.lemmas.List.{length-append}
use Rattle.lp_module.proofs.Measuring.{measured_more}
use Rattle.lp_module.proofs.measure.Measures.of.Goals as goal

pub loop-at-init : goal.loop-at-init
loop-at-init c = (c.requires.measured, omega (arith, c.len-at.ensures, c.args.self.now.measured.ok))

pub loop-at-preserved : goal.loop-at-preserved
loop-at-preserved c =
    let l = ap length c.in_ok-push.ensures.items in
    let m = length-append c.loop-at.self.measured.items (c.next-measure.result ∷ []) in (
      measured_more c.args.bank.now c.loop-at.self (record { measured = c.push.new.self }) c.loop-at.at c.next-measure.result c.in_ok-push.ensures.items (sym c.loop-at.invariant.1) (omega (arith, c.loop-at-test.true, c.term_count-count.ensures.count)) c.next-measure.ensures c.loop-at.invariant.0,
      omega (arith, l, m, c.loop-at.invariant.1),
    )

pub next-measure-requires-clause-measured : goal.next-measure-requires-clause-measured
next-measure-requires-clause-measured c = c.loop-at.invariant.0

pub next-measure-requires-clause-next : goal.next-measure-requires-clause-next
next-measure-requires-clause-next c = sym c.loop-at.invariant.1

pub returns-clause-measured : goal.returns-clause-measured
returns-clause-measured c = c.loop-at.invariant.0

pub returns-clause-measure : goal.returns-clause-measure
returns-clause-measure c = c.known.ensures c.args.bank.now c.loop-at.invariant.0 (omega (arith, c.loop-at-test.false, c.loop-at.invariant.1, c.requires.within, c.term_count-count.ensures.count))
