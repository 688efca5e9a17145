use Rattle.std.proofs.Common.{◌≡◌, ℕ, List, ◌++◌, drop}
use Rattle.lp_module.specs.Files.{HasNames}
use Rattle.lp_module.specs.Words.{ways_of}
use Rattle.lp_module.proofs.ways.ways_of.Given as goal

abbrev pub invariant-loop-at : goal.invariant-loop-at
invariant-loop-at l = (names : List (List ℕ)) → HasNames l.files names → l.ways.items ++ ways_of names l.source (drop l.at l.words.items) ≡ ways_of names l.source l.words.items
