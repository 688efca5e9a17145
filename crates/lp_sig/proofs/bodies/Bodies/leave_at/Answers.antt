use Rattle.std.proofs.Common.{refl, None}
use Rattle.lp_sig.proofs.Settling.{map_set, bodies_same}
use Rattle.lp_sig.proofs.bodies.Bodies.leave_at.Goals as goal

pub returns-in-Some-clause-bodies : goal.returns-in-Some-clause-bodies
returns-in-Some-clause-bodies c = bodies_same c.args.self.now.bodies.items c.args.place c.in-Some.known.now (record { body = c.in-Some.known.now.body; line = None }) c.in-Some.ensures.value refl

pub returns-in-Some-clause-lines : goal.returns-in-Some-clause-lines
returns-in-Some-clause-lines c = map_set (λ b. b.line) c.args.self.now.bodies.items c.args.place (record { body = c.in-Some.known.now.body; line = None })
