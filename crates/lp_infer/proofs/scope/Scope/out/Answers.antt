use Rattle.std.proofs.Common.{◌∙◌, ◌-◌, sym, ap, Some}
use Rattle.lp_infer.proofs.Levels.{level_out}
use Rattle.lp_infer.proofs.scope.Scope.out.Goals as goal

pub returns : goal.returns
returns c = λ scope H. ap Some (c.saturating_sub-2.ensures ∙ ap (λ n. n - 1) c.saturating_sub.ensures) ∙ level_out c.args.name.now scope c.args.self.now c.in-Some.level H (sym c.in-Some.is ∙ c.level.ensures)
