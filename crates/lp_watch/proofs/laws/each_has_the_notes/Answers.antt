use Rattle.lp_watch.proofs.Told.{tally_is, told_is, left_is}
use Rattle.lp_watch.proofs.laws.each_has_the_notes.Goals as goal

pub returns-clause-tally : goal.returns-clause-tally
returns-clause-tally c = λ notes s. tally_is notes s

pub returns-clause-told : goal.returns-clause-told
returns-clause-told c = λ notes s. told_is notes s

pub returns-clause-left : goal.returns-clause-left
returns-clause-left c = λ notes s. left_is notes s
