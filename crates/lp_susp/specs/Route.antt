-- Ways from a cell downwards: along references, through suspensions that wait, under abstractions, and along the heads of applications.
use Rattle.std.specs.Prelude.{◌≡◌, ℕ, zero, suc, ◌<◌, List, [], ◌∷◌, length}
use Rattle.lp_store.specs.declared.cell.Cell.TheVariants.{Ref, Susp, Abs, App}
use Rattle.lp_store.specs.declared.cell.CellId.{CellId}
use Rattle.lp_store.specs.declared.cell.Span.{Span}
use Rattle.lp_calculus.specs.Term.{Term, abs}
use Rattle.lp_store.specs.Contents.{Contents, cell_at, env_list}
use Rattle.lp_store.specs.Reading.{Reads, Leads, IsAmong, values}
use Rattle.lp_susp.specs.declared.exposing.Waiting.{Waiting}
use Rattle.lp_susp.specs.declared.exposing.Closure.{Closure}
use Rattle.lp_susp.specs.Pending.{IsPending, Carries}

-- references lead from one cell to the other
pub data RefsTo (s : Contents) : ℕ → ℕ → Type 0 where
  arrived : (i : ℕ) → RefsTo s i i
  onward : {i k : ℕ} → (j : CellId) → i < length s.cells → cell_at s i ≡ Ref j → RefsTo s j.0 k → RefsTo s i k

-- the cell is this suspension, of a term that references lead to
abbrev pub IsWaiting : Contents → Waiting → (at : ℕ) → Type 0
IsWaiting s w k = (w.cell.0 < length s.cells) × (b : CellId) × (cell_at s w.cell.0 ≡ Susp b w.pending.ol w.pending.nl w.pending.env) × RefsTo s b.0 k

-- these suspensions, the outermost first, stand between the two
abbrev pub Waits : Contents → (from : ℕ) → List Waiting → (at : ℕ) → Type 0
Waits s i [] k = RefsTo s i k
Waits s i (w ∷ ws) k = RefsTo s i w.cell.0 × (w.cell.0 < length s.cells) × (b : CellId) × (cell_at s w.cell.0 ≡ Susp b w.pending.ol w.pending.nl w.pending.env) × Waits s b.0 ws k

-- so many abstractions stand between the two
abbrev pub Under : Contents → (from : ℕ) → (depth : ℕ) → (at : ℕ) → Type 0
Under s i zero k = RefsTo s i k
Under s i (suc d) k = (e : ℕ) × (b : CellId) × RefsTo s i e × (e < length s.cells) × (cell_at s e ≡ Abs b) × Under s b.0 d k

-- these applications, the outermost first, stand between the two, each the head of the one before
abbrev pub Spine : Contents → (from : ℕ) → List CellId → (at : ℕ) → Type 0
Spine s i [] k = RefsTo s i k
Spine s i (p ∷ ps) k = (h : CellId) × (l : Span) × RefsTo s i p.0 × (p.0 < length s.cells) × (cell_at s p.0 ≡ App h l) × Spine s h.0 ps k

-- the cells that a closure is made of
abbrev pub closure_parts : Contents → Closure → List ℕ
closure_parts s x = x.body.0 ∷ values (env_list s.envs x.pending.env.0)

-- the cell leads to what the closure is made of, and reads as what the abstraction of the body reads as below the suspension
pub record IsClosure (s : Contents) (i : ℕ) (x : Closure) : Type 0 where
  pub body : x.body.0 < length s.cells
  pub pending : IsPending s x.pending
  pub leads : (j : ℕ) → IsAmong j (closure_parts s x) → Leads s i j
  pub reads : (t : Term) → Reads s i t → (m : Term) × Reads s x.body.0 m × Carries s x.pending (abs m) t

-- an abstraction on arguments
abbrev pub IsRedex : Contents → (redex : ℕ) → Closure → Span → Type 0
IsRedex s p x l = (h : CellId) × (p < length s.cells) × (cell_at s p ≡ App h l) × IsClosure s h.0 x
