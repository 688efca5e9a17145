use Rattle.std.proofs.Common.{◌≡◌, ◌<◌, ◌≤◌, ◌⊎◌, [], ◌∷◌, length, reverse}
use Rattle.std.specs.Prelude.{All}
use Rattle.lp_calculus.specs.Types.{Ty}
use Rattle.lp_store.specs.Contents.{cell_at}
use Rattle.lp_store.specs.Reading.{Avoids, ReadsType}
use Rattle.lp_unify.specs.Inside.{AvoidsIn, IsUnbound}
use Rattle.lp_unify.proofs.TypeVisits.{IsLooking}
use Rattle.lp_unify.proofs.types.occurs.Given as goal

abbrev pub invariant-types : goal.invariant-types
invariant-types l = record {
  avoids : IsUnbound (cell_at l.store l.variable.0) → All (AvoidsIn l.store l.variable.0) l.stack.items → Avoids l.store l.variable.0 l.fn.of.0;
  looking : (T : Ty) → ReadsType l.store l.fn.of.0 T → IsLooking l.store l.variable.0 T (reverse l.stack.items) l.initial.units l.units;
  first : (l.stack.items ≡ l.fn.of ∷ []) ⊎ (l.fn.of.0 < length l.store.cells);
  fewer : l.units ≤ l.initial.units;
}

abbrev pub decreases-types : goal.decreases-types
decreases-types l = l.units
