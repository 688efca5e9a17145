use Rattle.lp_plain.proofs.Served.{two_left}
use Rattle.std.proofs.Common.{refl}
use Rattle.lp_plain.proofs.Evaluations.{two_done}
use Rattle.lp_plain.proofs.arithmetic.operate_on_two.Goals as goal

pub returns-clause-bank : goal.returns-clause-bank
returns-clause-bank c = record { bank = c.in_ok-outcome.ensures.kept; same = refl }

pub returns-clause-takes : goal.returns-clause-takes
returns-clause-takes c = λ ts.
    let o = c.in_ok-outcome.ensures in
    two_done c.args.machine.now _ (returns-clause-bank c) c.args.operation c.in_ok-outcome.outcome c.in_ok-end.end ts c.in-Some-pop.left
    c.in-Some.right _ _ _ _ c.in-Some.ensures.items c.in-Some-pop.ensures.items o.gives c.in_ok-end.ensures

pub returns-clause-left : goal.returns-clause-left
returns-clause-left c =
    two_left c.in_ok-outcome.outcome c.in_ok-end.end c.args.values.now.items c.pop.new.self.items c.pop-2.new.self.items c.keep.new.values.items
    c.in-Some.right c.in-Some-pop.left c.in-Some.ensures.items c.in-Some-pop.ensures.items
    c.in_ok-end.ensures
