use Rattle.std.proofs.Common.{◌≡◌, ℕ, List, take}
use Rattle.lp_sig.specs.Places.{HasPlaces}
use Rattle.lp_sig.specs.Loading.{ways_in, accum_words}
use Rattle.lp_sig.proofs.walk.ways_of.Given as goal

abbrev pub invariant-loop-line : goal.invariant-loop-line
invariant-loop-line l = (ns : List (List ℕ)) → HasPlaces l.names ns → l.ways.items ≡ ways_in ns l.source (accum_words (take l.line-index l.text.lines.items))
