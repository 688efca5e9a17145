use Rattle.lp_sig.proofs.OwnNames.{own_first}
use Rattle.lp_sig.proofs.laws.own_names_come_first.Goals as goal

pub returns : goal.returns
returns c = own_first
