use Rattle.std.proofs.Common.{◌≡◌, map, take}
use Rattle.lp_sig.specs.Pieces.{spelled}
use Rattle.lp_module.proofs.meaning.uses_of.Given as goal

abbrev pub invariant-loop-at : goal.invariant-loop-at
invariant-loop-at l = map (λ name. name.items) l.uses.items ≡ map (spelled l.source) (take l.at l.words.items)
