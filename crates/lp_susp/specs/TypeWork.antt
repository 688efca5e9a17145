-- The work that is left on the way through types, and what it gives.
use Rattle.std.specs.Prelude.{◌≡◌, ◌<◌, List, [], ◌∷◌, ◌++◌, length, map}
use Rattle.lp_calculus.specs.Types.{Ty, con, arrow, tys}
use Rattle.lp_store.specs.declared.cell.CellId.{CellId}
use Rattle.lp_store.specs.Contents.{Contents}
use Rattle.lp_store.specs.Reading.{ReadsType}
use Rattle.lp_susp.specs.declared.type_reading.TypeTask.{TypeTask}
use Rattle.lp_susp.specs.declared.type_reading.TypeTask.TheVariants.{Read, MakeCon, MakeArrow}

-- a task on these types, of which the newest is the last
abbrev pub Act : Contents → TypeTask → List Ty → List Ty → Type 0
Act s (Read c) old new = (T : Ty) × ReadsType s c.0 T × (new ≡ old ++ T ∷ [])
Act s (MakeCon c n) old new = (front : List Ty) × (Ts : List Ty) × (old ≡ front ++ Ts) × (length Ts ≡ n) × (new ≡ front ++ con c (tys Ts) ∷ [])
Act s MakeArrow old new = (front : List Ty) × (a : Ty) × (b : Ty) × (old ≡ front ++ a ∷ b ∷ []) × (new ≡ front ++ arrow a b ∷ [])

-- all tasks, the last of which is done first
abbrev pub Ran : Contents → List TypeTask → List Ty → List Ty → Type 0
Ran s [] old new = old ≡ new
Ran s (t ∷ ts) old new = (mid : List Ty) × Ran s ts old mid × Act s t mid new

-- the cell of a task is in the store
abbrev pub IsThere : Contents → TypeTask → Type 0
IsThere s (Read c) = c.0 < length s.cells
IsThere s _ = Unit {0}

abbrev pub reads_of : List CellId → List TypeTask
reads_of cells = map (λ c. Read c) cells
