-- What holds of a store at all times: what a cell names is there, and no cell leads to itself.
use Rattle.std.specs.Prelude.{◌≡◌, ℕ, suc, ◌+◌, ◌<◌, ◌≤◌, List, [], ◌∷◌, length, All}
use Rattle.lp_store.specs.Contents.{Contents, cell_at, env_list}
use Rattle.lp_store.specs.Reading.{Ends, FitsEntry}
use Rattle.lp_store.specs.declared.cell.Cell.{Cell}
use Rattle.lp_store.specs.declared.cell.Cell.TheVariants.{TypeCon, TypeArrow, Ref, Const, Text, Abs, App, Susp}
use Rattle.lp_store.specs.declared.cell.EnvEntry.{EnvEntry}
use Rattle.lp_store.specs.declared.cell.EnvEntry.TheVariants.{Value, Dummy}
use Rattle.lp_store.specs.declared.cell.EnvNode.{EnvNode}

abbrev pub StandsEntry : (n : ℕ) → EnvEntry → Type 0
StandsEntry n (Value c l) = c.0 < n
StandsEntry n (Dummy l) = Unit {0}

-- what a cell names is in the store, an application has an argument, and a suspension is in order: as many entries as its first number, and numbers that are at most its second
abbrev pub Stands : Contents → Cell → Type 0
Stands s (TypeCon c l) = l.from + l.count ≤ length s.items
Stands s (TypeArrow a b) = (a.0 < length s.cells) × (b.0 < length s.cells)
Stands s (Ref j) = j.0 < length s.cells
Stands s (Const c l) = l.from + l.count ≤ length s.items
Stands s (Text l) = l.from + l.count ≤ length s.bytes
Stands s (Abs b) = b.0 < length s.cells
Stands s (App f l) = (f.0 < length s.cells) × (l.from + l.count ≤ length s.items) × (0 < l.count)
Stands s (Susp b ol nl e) = (b.0 < length s.cells) × (e.0 ≤ length s.envs) × (length (env_list s.envs e.0) ≡ ol) × All (FitsEntry nl) (env_list s.envs e.0)
Stands s _ = Unit {0}

-- each environment stands in front of an older one
abbrev pub AreOlder : ℕ → List EnvNode → Type 0
AreOlder k [] = Unit {0}
AreOlder k (n ∷ ns) = (n.rest.0 ≤ k) × AreOlder (suc k) ns

-- no cell leads to itself in a circle
pub record IsSound (s : Contents) : Type 0 where
  pub ending : (i : ℕ) → i < length s.cells → Ends s i
  pub stand : (i : ℕ) → i < length s.cells → Stands s (cell_at s i)
  pub items : All (λ t. t.0 < length s.cells) s.items
  pub envs : (e : ℕ) → e ≤ length s.envs → All (StandsEntry (length s.cells)) (env_list s.envs e)
  pub older : AreOlder 0 s.envs
