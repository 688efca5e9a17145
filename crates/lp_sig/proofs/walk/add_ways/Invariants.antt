use Rattle.std.proofs.Common.{◌≡◌, ℕ, List, ◌++◌, take}
use Rattle.lp_sig.specs.Places.{HasPlaces}
use Rattle.lp_sig.specs.Loading.{ways_in}
use Rattle.lp_sig.proofs.walk.add_ways.Given as goal

abbrev pub invariant-loop-word : goal.invariant-loop-word
invariant-loop-word l = (ns : List (List ℕ)) → HasPlaces l.names ns → l.ways.items ≡ l.fn.ways.items ++ ways_in ns l.source (take l.word-index l.words)
