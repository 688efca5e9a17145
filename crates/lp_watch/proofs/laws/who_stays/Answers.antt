use Rattle.lp_watch.proofs.Told.{who_stays_is}
use Rattle.lp_watch.proofs.laws.who_stays.Goals as goal

pub returns : goal.returns
returns c = λ notes seen. who_stays_is notes seen
