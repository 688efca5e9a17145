use Rattle.lp_syntax.proofs.TypeUnique.{one_annotation}
use Rattle.lp_syntax.proofs.laws.one_annotation.Goals as goal

pub returns : goal.returns
returns c = one_annotation
