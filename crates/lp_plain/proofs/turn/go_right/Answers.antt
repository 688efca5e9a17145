use Rattle.std.proofs.Common.{refl, ap}
use Rattle.lp_plain.proofs.Frames.{keeps_same}
use Rattle.lp_plain.proofs.turn.go_right.Goals as goal

pub returns-clause-known : goal.returns-clause-known
returns-clause-known c = keeps_same c.args.machine.now c.note.new.self _ c.in_ok-note.ensures.goals refl refl refl refl refl refl refl

pub returns-clause-next : goal.returns-clause-next
returns-clause-next c = ap (λ b. b.next) c.in_ok-note.ensures.course.branch

pub returns-clause-next_type : goal.returns-clause-next_type
returns-clause-next_type c = ap (λ b. b.next_type) c.in_ok-note.ensures.course.branch

pub returns-clause-assumed : goal.returns-clause-assumed
returns-clause-assumed c = record { assumptions = c.in_ok-note.ensures.assumed.assumptions; newest = c.in_ok-note.ensures.assumed.newest }

pub returns-clause-frames : goal.returns-clause-frames
returns-clause-frames c = c.in_ok-note.ensures.frames
