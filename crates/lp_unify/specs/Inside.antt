-- Cells of a store from which nothing leads to a variable.
use Rattle.std.specs.Prelude.{◌≡◌, ℕ, ◌+◌, ◌<◌, ◌≤◌, ◌⊎◌, List, length, Option, IfSome, All}
use Rattle.lp_store.specs.declared.cell.Cell.{Cell}
use Rattle.lp_store.specs.declared.cell.Cell.TheVariants.{TypeVar, Logic}
use Rattle.lp_store.specs.declared.cell.CellId.{CellId}
use Rattle.lp_store.specs.declared.cell.Span.{Span}
use Rattle.lp_store.specs.Contents.{Contents, cell_at}
use Rattle.lp_store.specs.Reading.{Avoids}
use Rattle.lp_unify.specs.declared.settle.Task.{Task}
use Rattle.lp_unify.specs.declared.settle.Task.TheVariants.{Visit, Abstract, Apply}

abbrev pub IsIn : ℕ → CellId → Type 0
IsIn n c = c.0 < n

abbrev pub IsListIn : Contents → Option Span → Type 0
IsListIn s o = IfSome o (λ l. l.from + l.count ≤ length s.items)

-- an unbound variable
abbrev pub IsUnbound : Cell → Type 0
IsUnbound c = (c ≡ TypeVar) ⊎ ((level : ℕ) × (c ≡ Logic level))

abbrev pub AvoidsIn : Contents → ℕ → CellId → Type 0
AvoidsIn s x c = Avoids s x c.0

-- what does not lead from the second to an unbound variable does not lead there from the first
abbrev pub LeadsOn : Contents → (i k : ℕ) → Type 0
LeadsOn s i k = (x : ℕ) → IsUnbound (cell_at s x) → Avoids s x k → Avoids s x i

-- a cell from which nothing leads to x
abbrev pub IsApart : Contents → ℕ → CellId → Type 0
IsApart s x c = (c.0 < length s.cells) × Avoids s x c.0

-- a task of a value from which nothing leads to x
abbrev pub IsTaskFor : Contents → ℕ → Task → Type 0
IsTaskFor s x (Visit c o) = Unit {0}
IsTaskFor s x (Abstract c) = Unit {0}
IsTaskFor s x (Apply c h k) = IsApart s x h

-- tasks of such a value, and what was made so far
pub record IsSettling (s : Contents) (x : ℕ) (ts : List Task) (ms : List CellId) : Type 0 where
  pub tasks : All (IsTaskFor s x) ts
  pub made : All (IsApart s x) ms
