use Rattle.std.proofs.Common.{subst, arith}
use Rattle.std.specs.Prelude.{All}
use Rattle.std.proofs.lemmas.List.{take_all}
use Rattle.lp_module.specs.Searching.{IsMarked}
use Rattle.lp_module.proofs.Reaching.{found_more}
use Rattle.lp_module.proofs.circles.find_all.Goals as goal

pub loop-at-preserved : goal.loop-at-preserved
loop-at-preserved c =
    found_more c.args.out.now.items c.args.marks.now.items c.loop-at.marks.items c.find.new.marks.items c.args.found.now.items c.loop-at.found.items c.find.new.found.items c.loop-at.at c.index.result.now
    (omega (arith, c.loop-at-test.true, c.len-at-end.ensures, c.args.out.now.ok)) c.index.ensures c.loop-at.invariant c.in_ok-find.ensures.more c.in_ok-find.ensures.marked c.in_ok-find.ensures.found

pub returns-clause-marked : goal.returns-clause-marked
returns-clause-marked c = subst (All (λ w. IsMarked c.loop-at.marks.items w.1)) (take_all c.loop-at.at c.args.out.now.items (omega (arith, c.loop-at-test.false, c.len-at-end.ensures, c.args.out.now.ok))) c.loop-at.invariant.1
