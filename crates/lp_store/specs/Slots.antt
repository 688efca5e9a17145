-- The cells that slots are kept for.
use Rattle.std.specs.Prelude.{List, map}
use Rattle.lp_store.specs.declared.cell.Span.{Span}
use Rattle.lp_store.specs.declared.cell.Cell.{Cell}
use Rattle.lp_store.specs.declared.cell.Cell.TheVariants as cell
use Rattle.lp_store.specs.declared.cell.Change.{Change}
use Rattle.lp_store.specs.declared.slot.ShortSpan.{ShortSpan}
use Rattle.lp_store.specs.declared.slot.Slot.{Slot}
use Rattle.lp_store.specs.declared.slot.Slot.TheVariants as slot
use Rattle.lp_store.specs.declared.trail.Kept.{Kept}

abbrev pub span_of : ShortSpan → Span
span_of s = record { from = s.from; count = s.count }

abbrev pub cell_of : Slot → Cell
cell_of slot.TypeVar = cell.TypeVar
cell_of (slot.TypeCon k l) = cell.TypeCon k (span_of l)
cell_of (slot.TypeArrow a b) = cell.TypeArrow (record { 0 = a }) (record { 0 = b })
cell_of (slot.Ref a) = cell.Ref (record { 0 = a })
cell_of (slot.Const c l) = cell.Const c (span_of l)
cell_of (slot.Int z) = cell.Int z
cell_of (slot.Text l) = cell.Text (span_of l)
cell_of (slot.Eigen k) = cell.Eigen k
cell_of (slot.Logic k) = cell.Logic k
cell_of (slot.Index i) = cell.Index i
cell_of (slot.Abs a) = cell.Abs (record { 0 = a })
cell_of (slot.App a l) = cell.App (record { 0 = a }) (span_of l)
cell_of (slot.Susp a m n e) = cell.Susp (record { 0 = a }) m n (record { 0 = e })

abbrev pub cells_of : List Slot → List Cell
cells_of ss = map cell_of ss

-- what a cell was before it was bound or overwritten
abbrev pub change_of : Kept → Change
change_of k = record { at = record { 0 = k.at }; was = cell_of k.was }

abbrev pub changes_of : List Kept → List Change
changes_of ks = map change_of ks
