use Rattle.lp_syntax.proofs.Reading.{one_tree}
use Rattle.lp_syntax.proofs.laws.one_tree.Goals as goal

pub returns : goal.returns
returns c = one_tree
