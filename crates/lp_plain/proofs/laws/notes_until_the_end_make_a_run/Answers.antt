use Rattle.lp_plain.proofs.Relayed.{relays_over}
use Rattle.lp_plain.proofs.laws.notes_until_the_end_make_a_run.Goals as goal

pub returns : goal.returns
returns g c = λ look s t u steps notes e r d. relays_over look s t u steps notes e r d
