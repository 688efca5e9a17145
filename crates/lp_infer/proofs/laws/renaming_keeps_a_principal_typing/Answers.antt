use Rattle.lp_infer.proofs.Renaming.{renamed}
use Rattle.lp_infer.proofs.laws.renaming_keeps_a_principal_typing.Goals as goal

pub returns : goal.returns
returns c = renamed
