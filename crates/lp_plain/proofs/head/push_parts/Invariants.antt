use Rattle.std.proofs.Common.{◌≡◌, ◌++◌, ◌∷◌}
use Rattle.lp_plain.specs.Heads.{places_of}
use Rattle.lp_plain.proofs.head.push_parts.Given as goal

abbrev pub invariant-loop-term : goal.invariant-loop-term
invariant-loop-term l = l.places.items ≡ l.fn.places.items ++ places_of l.depth (l.fn.head ∷ l.yielded)
