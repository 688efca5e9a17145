use Rattle.std.proofs.Common.{◌∙◌}
use Rattle.std.proofs.lemmas.Result.{on_ok_weaker}
use Rattle.lp_infer.specs.Levels.{level_in}
use Rattle.lp_infer.proofs.Levels.{left}
use Rattle.lp_infer.proofs.scope.Scope.leave.Goals as goal

pub returns : goal.returns
unfolding level_in
returns c =
    on_ok_weaker c.set_level.result (λ l scope H o. left c.args.name.now scope c.args.outside c.args.self.now c.set_level.new.self (c.set_level.ensures.depth ∙ c.saturating_sub-self.ensures) l H o) c.set_level.ensures.level
