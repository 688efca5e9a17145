-- What unification keeps of a store.
use Rattle.std.specs.Prelude.{ℕ, ◌<◌, length}
use Rattle.lp_store.specs.declared.cell.CellId.{CellId}
use Rattle.lp_store.specs.Contents.{Contents}
use Rattle.lp_store.specs.Change.{KeepsMarks}
use Rattle.lp_susp.specs.Kept.{Grows, AvoidsOn}
use Rattle.lp_unify.specs.Inside.{IsApart}

-- the store has more, and what it was at each mark is kept
pub record Goes (old new : Contents) : Type 0 where
  pub grows : Grows old new
  pub marks : KeepsMarks old new

-- besides, no way between old cells is new: nothing was bound
pub record Stays (old new : Contents) : Type 0 where
  pub grows : Grows old new
  pub marks : KeepsMarks old new
  pub avoids : AvoidsOn old new

-- nothing leads from the cell to a cell of before
abbrev pub IsFresh : (old new : Contents) → CellId → Type 0
IsFresh old new c = (x : ℕ) → x < length old.cells → IsApart new x c
