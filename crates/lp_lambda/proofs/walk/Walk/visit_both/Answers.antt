use Rattle.std.proofs.Common.{refl, ap, ◌∙◌, ◌++◌, ◌∷◌, []}
use Rattle.lp_lambda.specs.declared.walk.Task.TheVariants.{Visit}
use Rattle.lp_lambda.proofs.Puts.{both_put}
use Rattle.lp_lambda.proofs.walk.Walk.visit_both.Goals as goal

pub returns : goal.returns
returns c = λ b a h k.
    let w = c.args.self.now in
    both_put b w (record { scope = w.scope; work = c.push-2.new.self }) a c.args.position c.args.other c.args.left c.args.right refl
    (c.in_ok-push-2.ensures.items ∙ ap (λ z. z ++ Visit c.args.position c.args.left ∷ []) c.in_ok-push.ensures.items) h k
