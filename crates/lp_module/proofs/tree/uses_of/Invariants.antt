use Rattle.std.proofs.Common.{◌≡◌, map, take}
use Rattle.lp_module.specs.Copies.{names_of, numbers_of}
use Rattle.lp_copies.specs.Trees.{lists_in}
use Rattle.lp_module.proofs.tree.uses_of.Given as goal

abbrev pub invariant-loop-at : goal.invariant-loop-at
invariant-loop-at l = lists_in l.uses.items ≡ map (λ m. numbers_of (names_of l.modules) (map (λ u. u.items) m.uses.items)) (take l.at l.modules)
