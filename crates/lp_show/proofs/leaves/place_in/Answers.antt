use Rattle.std.proofs.Common.{◌∙◌, arith}
use Rattle.lp_show.proofs.Texts.{place_absent, place_here}
use Rattle.lp_show.proofs.leaves.place_in.Goals as goal

pub returns-in-Some-clause-place : goal.returns-in-Some-clause-place
returns-in-Some-clause-place c = place_here c.args.id c.args.seen.now.keys c.in-Some.place c.in-Some.ensures.index

pub returns-in-Some-clause-low : goal.returns-in-Some-clause-low
returns-in-Some-clause-low c = omega (arith, c.in-Some.ensures.within, c.len-count.ensures.len, c.len-count.ensures.small)

pub returns-in-None-clause-place : goal.returns-in-None-clause-place
returns-in-None-clause-place c = c.len-count.ensures.len ∙ place_absent c.args.id c.args.seen.now.keys c.in-None.ensures.index
