use Rattle.lp_term.proofs.Startings.{taken}
use Rattle.lp_term.proofs.started.take.Goals as goal

pub returns-clause-started : goal.returns-clause-started
returns-clause-started c = λ vs b t h m e. taken vs b c.args.started t c.args.made c.push.new.self c.in_ok-push.ensures.items h m e
