use Rattle.std.proofs.Common.{◌≡◌, map, take}
use Rattle.lp_query.proofs.asked.some_shown.Given as goal

abbrev pub invariant-loop-at : goal.invariant-loop-at
invariant-loop-at l = map (λ n. n.items) l.chosen.items ≡ map (λ n. n.items) (take l.at l.shown)
