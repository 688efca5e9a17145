use Rattle.lp_plain.proofs.Served.{one_left}
use Rattle.std.proofs.Common.{refl}
use Rattle.lp_term.proofs.Trees.{extends_same}
use Rattle.lp_plain.proofs.Evaluations.{one_done}
use Rattle.lp_plain.proofs.arithmetic.operate_on_one.Goals as goal

pub returns-clause-takes : goal.returns-clause-takes
returns-clause-takes c = λ ts.
    let m = c.args.machine.now in
    one_done m m (record { bank = extends_same m.bank; same = refl }) c.args.operation c.on_one-outcome.result c.in_ok-end.end ts c.in-Some.value _ _
    _ c.in-Some.ensures.items c.on_one-outcome.ensures c.in_ok-end.ensures

pub returns-clause-left : goal.returns-clause-left
returns-clause-left c =
    one_left c.on_one-outcome.result c.in_ok-end.end c.args.values.now.items c.pop.new.self.items c.keep.new.values.items c.in-Some.value c.in-Some.ensures.items c.in_ok-end.ensures
