use Rattle.std.proofs.Common.{refl}
use Rattle.lp_cert.proofs.Turning.{compared_turned, is_done}
use Rattle.lp_cert.specs.Run.{focusing}
use Rattle.lp_term.specs.Nodes.{tree}
use Rattle.lp_cert.specs.Written.{hit}
use Rattle.lp_cert.specs.inner.Turned.{IsTurned}
use Rattle.lp_cert.proofs.work.Work.hit.Goals as goal

pub returns-clause-later : goal.returns-clause-later
returns-clause-later c = λ e. c.in_ok-compared.ensures.later (c.turn_of-turn.ensures.on e)

pub returns-clause-turned : goal.returns-clause-turned
returns-clause-turned c = λ w g d.
    compared_turned (IsTurned c.converts.new.bank c.args.self.now c.converts.new.self (λ b. focusing (tree b c.args.clause.0) (tree b c.args.atom.0)) (λ b. hit)) c.turn_of-turn.result c.in_ok-compared.compared c.turn_of-turn.ensures.on c.turn_of-turn.ensures.no c.turn_of-turn.ensures.deep
    (λ e. is_done c.args.bank.now _ c.args.self.now c.converts.new.self c.converts.new.self (λ b. focusing (tree b c.args.clause.0) (tree b c.args.atom.0)) (λ b. hit) c.in_ok-compared.ensures.kept c.in_ok-compared.ensures.stays refl w (λ b h at. (c.in_ok-compared.ensures.later e b h, at)))
    (λ e b h k. c.in_ok-compared.ensures.differ e g d b h k.0)
    (λ e b h. c.in_ok-compared.ensures.deep e g d b h)
