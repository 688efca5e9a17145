use Rattle.lp_watch.proofs.Told.{reports_are}
use Rattle.lp_watch.proofs.laws.each_reports_what_it_took.Goals as goal

pub returns : goal.returns
returns c = λ notes seen. reports_are notes seen
