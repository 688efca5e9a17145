use Rattle.lp_gen.proofs.Alike.{goals_same}
use Rattle.lp_gen.proofs.laws.goals_take_alike.Goals as goal

pub returns : goal.returns
returns c = λ K v a b gs s. goals_same K v a b gs s
