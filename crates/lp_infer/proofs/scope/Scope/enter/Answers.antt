use Rattle.std.proofs.Common.{◌∙◌, arith}
use Rattle.lp_infer.specs.Levels.{level_in}
use Rattle.lp_infer.proofs.Levels.{entered}
use Rattle.lp_infer.proofs.scope.Scope.enter.Goals as goal

pub returns : goal.returns
unfolding level_in
returns c = λ scope H.
    (entered c.args.name.now scope c.args.self.now c.set_level.new.self (omega (arith, c.in_ok-set_level.ensures.depth)) c.in_ok-set_level.ensures.level H, c.level-outside.ensures ∙ H.levels c.args.name.now)
