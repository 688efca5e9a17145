use Rattle.lp_sig.proofs.Apart.{names_apart}
use Rattle.lp_sig.proofs.laws.names_are_apart.Goals as goal

pub returns : goal.returns
returns c = names_apart
