use Rattle.lp_sig.specs.Laws.{all_said, all_definitions}
use Rattle.lp_sig.proofs.Agreeing.{texts_agree}
use Rattle.lp_sig.proofs.OneScheme.{one_scheme}
use Rattle.lp_sig.proofs.laws.a_type_has_one_scheme.Goals as goal

pub returns : goal.returns
returns c = λ texts w n m t u h k. one_scheme (all_said texts) (all_definitions texts) (texts_agree texts) w n m t u h k
