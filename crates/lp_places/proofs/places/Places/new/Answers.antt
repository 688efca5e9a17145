use Rattle.std.proofs.Common.{ap}
use Rattle.std.specs.Str.{bytes_eq}
use Rattle.std.specs.Map.{lookup}
use Rattle.lp_places.specs.Places.{place_of}
use Rattle.lp_places.proofs.places.Places.new.Goals as goal

pub returns : goal.returns
unfolding place_of
returns c = λ name. ap (lookup (λ k. bytes_eq name k.items)) c.new.ensures.empty
