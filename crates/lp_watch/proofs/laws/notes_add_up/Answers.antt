use Rattle.lp_watch.proofs.Told.{crowd_one_more}
use Rattle.lp_watch.proofs.laws.notes_add_up.Goals as goal

pub returns : goal.returns
returns c = λ notes e places. crowd_one_more notes e places
