use Rattle.std.proofs.Common.{refl}
use Rattle.lp_sig.proofs.Settling.{map_set, lines_same}
use Rattle.lp_sig.proofs.bodies.Bodies.put_body.Goals as goal

pub returns-in-Some-clause-lines : goal.returns-in-Some-clause-lines
returns-in-Some-clause-lines c = lines_same c.args.self.now.bodies.items c.args.place c.in-Some.known.now (record { body = c.args.body; line = c.in-Some.known.now.line }) c.in-Some.ensures.value refl

pub returns-in-Some-clause-bodies : goal.returns-in-Some-clause-bodies
returns-in-Some-clause-bodies c = map_set (λ b. b.body) c.args.self.now.bodies.items c.args.place (record { body = c.args.body; line = c.in-Some.known.now.line })
