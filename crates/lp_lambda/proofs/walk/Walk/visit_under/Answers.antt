use Rattle.std.proofs.Common.{ap, ◌∙◌, ◌++◌, ◌∷◌, []}
use Rattle.lp_lambda.specs.declared.walk.Task.TheVariants.{Visit}
use Rattle.lp_lambda.proofs.Puts.{under_put}
use Rattle.lp_lambda.proofs.walk.Walk.visit_under.Goals as goal

pub returns : goal.returns
returns c = λ b a h.
    let w = c.args.self.now in
    under_put b w (record { scope = c.push-3.new.self; work = c.push-2.new.self }) a c.args.binder c.args.position c.args.part c.in_ok-push-3.ensures.items
    (c.in_ok-push-2.ensures.items ∙ ap (λ z. z ++ Visit c.args.position c.args.part ∷ []) c.in_ok-push.ensures.items) h
