use Rattle.lp_plain.proofs.Opening.{variable_noted, same_stands}
use Rattle.lp_plain.proofs.parts.opened.Goals as goal

pub returns-clause-variable : goal.returns-clause-variable
returns-clause-variable c =
    let n = c.in_ok-note.ensures in
    variable_noted c.args.machine.now c.new_variable.new.self c.note.new.self c.args.level c.in_ok-variable.variable c.in_ok-variable.ensures.variable
    n.goals n.frames n.assumed n.course.denied n.course.choices n.course.branch

pub returns-clause-stands : goal.returns-clause-stands
returns-clause-stands c = λ i.
    let n = c.in_ok-note.ensures in
    same_stands c.new_variable.new.self c.note.new.self n.goals n.frames (c.in_ok-variable.ensures.stands i)
