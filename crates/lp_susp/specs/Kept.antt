-- What calls on suspensions keep of a store.
use Rattle.std.specs.Prelude.{◌≡◌, ℕ, ◌+◌, ◌<◌, ◌≤◌, length}
use Rattle.lp_calculus.specs.Types.{Ty}
use Rattle.lp_calculus.specs.Term.{Term}
use Rattle.lp_calculus.specs.Convert.{Reduces}
use Rattle.lp_store.specs.declared.cell.Cell.{Cell}
use Rattle.lp_store.specs.declared.cell.Cell.TheVariants.{Ref, Susp}
use Rattle.lp_store.specs.Contents.{Contents, cell_at, span, env_list}
use Rattle.lp_store.specs.Reading.{Avoids, Reads, ReadsType}

-- what is neither a reference nor a suspension
abbrev pub IsExposed : Cell → Type 0
IsExposed (Ref to) = ⊥
IsExposed (Susp b ol nl e) = ⊥
IsExposed _ = Unit {0}

-- what is no suspension
abbrev pub IsSettled : Cell → Type 0
IsSettled (Susp b ol nl e) = ⊥
IsSettled _ = Unit {0}

-- lists, texts and environments are those of before, with more behind them
pub record Grows (old new : Contents) : Type 0 where
  pub more_cells : length old.cells ≤ length new.cells
  pub more_items : length old.items ≤ length new.items
  pub more_bytes : length old.bytes ≤ length new.bytes
  pub more_envs : length old.envs ≤ length new.envs
  pub items : (from count : ℕ) → from + count ≤ length old.items → span new.items from count ≡ span old.items from count
  pub bytes : (from count : ℕ) → from + count ≤ length old.bytes → span new.bytes from count ≡ span old.bytes from count
  pub envs : (e : ℕ) → e ≤ length old.envs → env_list new.envs e ≡ env_list old.envs e

-- no way from an old cell to an old cell is new
abbrev pub AvoidsOn : Contents → Contents → Type 0
AvoidsOn old new = (c i : ℕ) → c < length old.cells → i < length old.cells → Avoids old c i → Avoids new c i

-- each old cell reads as before, and only suspensions gave way to what they read as
pub record Keeps (old new : Contents) : Type 0 where
  pub grows : Grows old new
  pub types : (i : ℕ) (T : Ty) → ReadsType old i T → ReadsType new i T
  pub terms : (i : ℕ) (t : Term) → Reads old i t → Reads new i t
  pub avoids : AvoidsOn old new
  pub settled : (i : ℕ) → i < length old.cells → IsSettled (cell_at old i) → cell_at new i ≡ cell_at old i

-- each old cell reads as the same type, and as the same term or as one that it reduces to
pub record Reduced (old new : Contents) : Type 0 where
  pub grows : Grows old new
  pub types : (i : ℕ) (T : Ty) → ReadsType old i T → ReadsType new i T
  pub terms : (i : ℕ) (t : Term) → Reads old i t → (u : Term) × Reads new i u × Reduces t u
  pub avoids : AvoidsOn old new
