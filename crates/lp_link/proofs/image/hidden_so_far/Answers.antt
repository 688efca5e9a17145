use Rattle.std.proofs.Common.{ap}
use Rattle.lp_link.specs.inner.Named.{count_in, or_none}
use Rattle.lp_link.proofs.image.hidden_so_far.Goals as goal

pub returns-in-None : goal.returns-in-None
unfolding count_in
returns-in-None c = ap or_none c.in-None.ensures.value

pub returns-in-Some : goal.returns-in-Some
unfolding count_in
returns-in-Some c = ap or_none c.in-Some.ensures.value
