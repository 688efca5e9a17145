use Rattle.std.proofs.Common.{[], ◌∷◌, map}
use Rattle.lp_plain.specs.inner.Looking.{weight_of_all}
use Rattle.lp_plain.specs.inner.Collecting.{Sought, piece, stands, piece_weight, has, is_marked, IsSought}
use Rattle.lp_plain.proofs.free.free_in.Given as goal

abbrev pub invariant-parts : goal.invariant-parts
invariant-parts l = (x : Sought) → IsSought (has l.walk x) (stands l.bank x) (piece_weight l.bank) (piece l.bank l.fn.part ∷ []) (map (piece l.bank) l.walk.left.items) (is_marked l.walk)

abbrev pub decreases-parts : goal.decreases-parts
decreases-parts l = weight_of_all (piece_weight l.bank) (map (piece l.bank) l.walk.left.items)
