use Rattle.lp_pattern_laws.proofs.Resumed.{resumed_kept}
use Rattle.lp_pattern_laws.proofs.goals.pattern_branches_go_on.Goals as goal

pub returns : goal.returns
returns c = λ b s h empty v. resumed_kept b s h empty v
