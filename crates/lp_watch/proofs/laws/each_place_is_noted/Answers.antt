use Rattle.lp_watch.proofs.Told.{places_noted}
use Rattle.lp_watch.proofs.laws.each_place_is_noted.Goals as goal

pub returns : goal.returns
returns c = λ notes places. places_noted notes places
