-- The types of heads that are constants, pair by pair.
use Rattle.std.specs.Prelude.{◌≡◌, List, [], ◌∷◌, length}
use Rattle.lp_store.specs.declared.cell.Cell.{Cell}
use Rattle.lp_store.specs.declared.cell.Cell.TheVariants.{Const}
use Rattle.lp_store.specs.declared.cell.CellId.{CellId}
use Rattle.lp_store.specs.Contents.{Contents, cell_at, span}

abbrev pub type_cells : Contents → Cell → List CellId
type_cells s (Const c l) = span s.items l.from l.count
type_cells s _ = []

abbrev pub types_at : Contents → CellId → List CellId
types_at s c = type_cells s (cell_at s c.0)

abbrev pub zipped_cells : (lefts rights : List CellId) → List (CellId × CellId)
zipped_cells ls [] = []
zipped_cells [] (r ∷ rs) = []
zipped_cells (l ∷ ls) (r ∷ rs) = (l, r) ∷ zipped_cells ls rs

abbrev pub HaveAsManyTypes : Contents → (one other : CellId) → Type 0
HaveAsManyTypes s one other = length (types_at s one) ≡ length (types_at s other)
