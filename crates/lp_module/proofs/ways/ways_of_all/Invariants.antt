use Rattle.std.proofs.Common.{◌≡◌, ℕ, List, ◌++◌, drop}
use Rattle.lp_module.specs.Files.{HasNames}
use Rattle.lp_module.specs.Searching.{ways_in}
use Rattle.lp_module.specs.Words.{all_ways}
use Rattle.lp_module.proofs.ways.ways_of_all.Given as goal

abbrev pub invariant-loop-at : goal.invariant-loop-at
invariant-loop-at l = (names : List (List ℕ)) → HasNames l.files names → ways_in l.ways.items ++ all_ways names (drop l.at l.sources) (drop l.at l.texts) ≡ all_ways names l.sources l.texts
