use Rattle.std.proofs.Common.{refl}
use Rattle.lp_lambda.proofs.Puts.{one_put}
use Rattle.lp_lambda.proofs.walk.Walk.visit.Goals as goal

pub returns : goal.returns
returns c = λ b a h.
    let w = c.args.self.now in
    one_put b w (record { scope = w.scope; work = c.push.new.self }) a c.args.position c.args.part refl c.in_ok-push.ensures.items h
