use Rattle.std.proofs.Common.{ℕ, List, map, take, ◌++◌}
use Rattle.lp_sig.specs.Pieces.{spelled}
use Rattle.lp_sig.specs.Sights.{HasNumbers}
use Rattle.lp_sig.proofs.hearing.number.Given as goal

abbrev pub invariant-loop-word : goal.invariant-loop-word
invariant-loop-word l = (before : List (List ℕ)) → HasNumbers l.fn.numbers before → HasNumbers l.numbers (before ++ map (λ s. spelled l.source s) (take l.word-index l.words))
