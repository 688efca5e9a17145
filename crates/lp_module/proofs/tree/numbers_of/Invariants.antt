use Rattle.std.proofs.Common.{◌≡◌, ℕ, List, ◌++◌, map, drop}
use Rattle.lp_module.specs.Copies.{numbers_of}
use Rattle.lp_module.specs.Files.{HasNames}
use Rattle.lp_module.proofs.tree.numbers_of.Given as goal

abbrev pub invariant-loop-at : goal.invariant-loop-at
invariant-loop-at l = (names : List (List ℕ)) → HasNames l.files names → l.numbers.items ++ numbers_of names (map (λ u. u.items) (drop l.at l.member.uses.items)) ≡ numbers_of names (map (λ u. u.items) l.member.uses.items)
