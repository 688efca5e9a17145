use Rattle.lp_plain.proofs.Assumed.{tree_noted, assumes_noted, more_noted}
use Rattle.lp_plain.proofs.Growing.{grows_kept}
use Rattle.lp_plain.proofs.Opening.{same_stands}
use Rattle.lp_plain.proofs.WrittenSearches.{search_same}
use Rattle.lp_plain.proofs.assume.assume_noted.Goals as goal

pub returns-clause-more : goal.returns-clause-more
returns-clause-more c =
    let n = c.in_ok-note.ensures in
    more_noted c.args.machine.now c.assume.new.machine c.note.new.self c.in_ok-assumed.ensures.more n.goals n.course n.frames n.assumed

pub returns-clause-tree : goal.returns-clause-tree
returns-clause-tree c = λ tree e.
    let n = c.in_ok-note.ensures in
    tree_noted c.args.machine.now c.assume.new.machine c.note.new.self c.args.rules.from c.args.rules.to c.args.place.assumed tree n.assumed (c.in_ok-assumed.ensures.tree tree e)

pub returns-clause-assumed : goal.returns-clause-assumed
returns-clause-assumed c = λ tree e.
    let n = c.in_ok-note.ensures in
    assumes_noted c.args.machine.now c.assume.new.machine c.note.new.self c.args.rules.from c.args.rules.to c.args.place tree n.goals n.assumed (c.in_ok-assumed.ensures.assumed tree e)

pub returns-clause-written : goal.returns-clause-written
returns-clause-written c = λ ar i w s.
    let n = c.in_ok-note.ensures in
    let o = c.assume.new.machine in
    let g = c.in_ok-assumed.ensures.more in
    search_same o c.note.new.self (same_stands c.args.machine.now o g.goals g.frames i) (grows_kept o c.note.new.self n.goals) n.frames n.assumed
    n.course.choices ar (c.in_ok-assumed.ensures.written ar i w s)
