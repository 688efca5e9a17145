use Rattle.std.proofs.Common.{arith}
use Rattle.std.proofs.lemmas.List.{nil_from_length}
use Rattle.lp_build.proofs.Seeing.{seen_start, seen_one, seen_all}
use Rattle.lp_build.proofs.links.Links.seen.Goals as goal

pub loop-init : goal.loop-init
loop-init c = λ files links. seen_start files c.args.file c.args.name.now c.new-seen.result.keys c.in_ok-work.work.items c.new-seen.ensures.empty (c.in_ok-work.ensures files links)

pub loop-preserved : goal.loop-preserved
loop-preserved c = λ files links.
    seen_one files c.args.file c.args.name.now c.loop.seen.keys c.take.new.seen.keys c.loop.work.items c.pop.new.self.items c.take.new.work.items
    c.in-Some.number c.in-Some.ensures.items c.in_ok-take-in-Some.ensures.seen (c.in_ok-take-in-Some.ensures.work files links)
    (c.loop.invariant files links)

pub returns-in-None-clause-seen : goal.returns-in-None-clause-seen
returns-in-None-clause-seen c = λ files links. (c.loop.invariant files links).met

pub returns-in-None-clause-all : goal.returns-in-None-clause-all
returns-in-None-clause-all c = λ files links. seen_all files c.args.file c.args.name.now c.loop.seen.keys c.loop.work.items
    (nil_from_length c.loop.work.items (omega (arith, c.in-None.ensures.cases.0, c.loop.work.ok))) (c.loop.invariant files links)
