use Rattle.std.proofs.Common.{ℕ, List, map, take, ◌++◌}
use Rattle.lp_sig.specs.Pieces.{spelled}
use Rattle.lp_sig.specs.Sights.{HasKeys}
use Rattle.lp_sig.proofs.hearing.note.Given as goal

abbrev pub invariant-loop-name : goal.invariant-loop-name
invariant-loop-name l = (before : List (List ℕ)) → HasKeys l.fn.set before → HasKeys l.set (before ++ map (λ s. spelled l.source s) (take l.name-index l.names))
