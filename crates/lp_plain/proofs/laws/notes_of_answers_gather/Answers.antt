use Rattle.lp_plain.proofs.Relayed.{relays_more}
use Rattle.lp_plain.proofs.laws.notes_of_answers_gather.Goals as goal

pub returns : goal.returns
returns g c = λ look s t u steps notes a r d. relays_more look s t u steps notes a r d
