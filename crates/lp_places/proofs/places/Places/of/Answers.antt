use Rattle.std.proofs.Common.{◌∙◌}
use Rattle.lp_places.specs.Places.{place_of}
use Rattle.lp_places.proofs.places.Places.of.Goals as goal

pub returns : goal.returns
unfolding place_of
returns c = c.copied.ensures ∙ c.get.ensures.value
