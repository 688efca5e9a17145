use Rattle.std.proofs.Common.{◌∙◌, sym, ap, option_map}
use Rattle.lp_infer.specs.Levels.{level_in, level_at}
use Rattle.lp_infer.proofs.scope.Scope.level.Goals as goal

pub returns-in-Some : goal.returns-in-Some
unfolding level_in
returns-in-Some c = ap level_at (sym (ap (λ o. option_map (λ s. s.now) o) c.in-Some.is) ∙ c.get.ensures.value)

pub returns-in-None : goal.returns-in-None
unfolding level_in
returns-in-None c = ap level_at (sym (ap (λ o. option_map (λ s. s.now) o) c.in-None.is) ∙ c.get.ensures.value)
