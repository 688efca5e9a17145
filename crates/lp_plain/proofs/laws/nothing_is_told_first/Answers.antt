use Rattle.lp_plain.proofs.Relayed.{relays_none}
use Rattle.lp_plain.proofs.laws.nothing_is_told_first.Goals as goal

pub returns : goal.returns
returns g c = λ look s. relays_none look s
