-- A search in which all is written: its frames and assumptions, and those of its alternatives.
use Rattle.std.specs.Prelude.{◌≡◌, Bool, Option, ℕ, ◌<◌, ◌≤◌, List, [], ◌∷◌, ◌++◌, All, length, slice_get, take, Some}
use Rattle.lp_term.specs.Nodes.{Nodes, tree}
use Rattle.lp_term.specs.Spine.{LooseBelow}
use Rattle.lp_term.specs.declared.node.TermId.{TermId}
use Rattle.lp_model.specs.declared.connective.Connective.{Connective}
use Rattle.lp_model.specs.declared.connective.Connective.TheVariants as code
use Rattle.lp_plain.specs.declared.choice.Choice.{Choice}
use Rattle.lp_plain.specs.declared.frame.Assumption.{Assumption}
use Rattle.lp_plain.specs.declared.frame.Frame.{Frame}
use Rattle.lp_plain.specs.declared.frame.Place.{Place}
use Rattle.lp_plain.specs.declared.frame.Todo.{Todo}
use Rattle.lp_plain.specs.declared.instance.Values.{Values}
use Rattle.lp_plain.specs.declared.machine.Machine.{Machine}
use Rattle.lp_plain.specs.declared.scope.Scopes.{Scopes}
use Rattle.lp_plain.specs.declared.table.Flat.{Flat}
use Rattle.lp_plain.specs.declared.table.Span.{Span}
use Rattle.lp_plain.specs.Scopes.{block_count, blocks_at, blocks_of, value_count}
use Rattle.lp_plain.specs.Tables.{Shown, shown}
use Rattle.lp_plain.specs.Taking.{IsApartFlat}
use Rattle.lp_plain.specs.Within.{StandsIn}
use Rattle.lp_plain.specs.WrittenTable.{AreWritten, IsWrittenIn, StandsWritten, WrittenFlat, WrittenGoals, WrittenList, WrittenRules}

-- what there was when an alternative was put is written
pub record IsWrittenAlternative (b : Nodes) (t : Shown) (s : Scopes) (fs : List Frame) (xs : List Assumption) (ar : ℕ → ℕ) (c : Choice) : Type 0 where
  pub frames : c.lengths.frames ≤ length fs
  pub blocks : c.lengths.scopes.blocks ≤ block_count s
  pub values : c.lengths.scopes.values ≤ value_count s
  pub assumptions : c.lengths.assumptions ≤ length xs
  pub written : AreWritten b t ar (blocks_at c.lengths.scopes s) (take c.lengths.frames fs) (take c.lengths.assumptions xs)

abbrev pub IsWrittenAt : Machine → (ar : ℕ → ℕ) → Choice → Type 0
IsWrittenAt m ar c = IsWrittenAlternative m.bank (shown m.table) m.scopes m.frames.items m.assumptions.items ar c

-- at the one alternative there was no more than at the other
pub record IsOlder (c d : Choice) : Type 0 where
  pub frames : c.lengths.frames ≤ d.lengths.frames
  pub blocks : c.lengths.scopes.blocks ≤ d.lengths.scopes.blocks
  pub values : c.lengths.scopes.values ≤ d.lengths.scopes.values
  pub assumptions : c.lengths.assumptions ≤ d.lengths.assumptions

abbrev pub AreOlder : List Choice → Type 0
AreOlder [] = Unit {0}
AreOlder (c ∷ cs) = All (IsOlder c) cs × AreOlder cs

pub record IsWrittenSearch (m : Machine) (ar : ℕ → ℕ) : Type 0 where
  pub at_work : StandsWritten m ar
  pub alternatives : All (IsWrittenAt m ar) m.choices.items
  pub older : AreOlder m.choices.items

-- a search stays so where this is written in a place
abbrev pub StaysWritten : (old new : Machine) → Place → (Is : (ar : ℕ → ℕ) → (k : ℕ) → (binders : List Bool) → Type 0) → Type 0
StaysWritten m n p Is = (ar : ℕ → ℕ) → StandsIn m → IsWrittenIn m.bank (blocks_of m.scopes) p.values.scope (Is ar) → IsWrittenSearch m ar → IsWrittenSearch n ar

-- so for a list, inside more binders; for two lists; for assumed clauses and a list; for a flattened goal; and for goals
abbrev pub WritesList : (old new : Machine) → Place → (more : List Bool) → (list : ℕ) → Type 0
WritesList m n p more l = StaysWritten m n p (λ ar k bs. WrittenList m.bank (shown m.table) ar k (more ++ bs) l)

abbrev pub WritesBoth : (old new : Machine) → Place → (left right : ℕ) → Type 0
WritesBoth m n p l r = StaysWritten m n p (λ ar k bs. WrittenList m.bank (shown m.table) ar k bs l × WrittenList m.bank (shown m.table) ar k bs r)

abbrev pub WritesRules : (old new : Machine) → Place → (from to : ℕ) → Type 0
WritesRules m n p from to = StaysWritten m n p (λ ar k bs. WrittenRules m.bank (shown m.table) ar k bs from to)

abbrev pub WritesAssumed : (old new : Machine) → Place → (rules : Span) → (list : ℕ) → Type 0
WritesAssumed m n p s l = StaysWritten m n p (λ ar k bs. WrittenRules m.bank (shown m.table) ar k bs s.from s.to × WrittenList m.bank (shown m.table) ar k bs l)

abbrev pub WritesFlat : (old new : Machine) → Place → Flat → Type 0
WritesFlat m n p f = StaysWritten m n p (λ ar k bs. WrittenFlat m.bank (shown m.table) ar k bs f)

abbrev pub WritesGoals : (old new : Machine) → Place → Span → Type 0
WritesGoals m n p s = StaysWritten m n p (λ ar k bs. WrittenGoals m.bank (shown m.table) ar k bs s.from s.to)

-- a term of the bank without a loose index, and the terms of a connective
abbrev pub IsShut : Nodes → TermId → Type 0
IsShut b u = (u.0 < length b.terms) × LooseBelow 0 0 (tree b u.0)

abbrev pub IsShutIn : Nodes → Connective → Type 0
IsShutIn b code.True = Unit {0}
IsShutIn b code.Cut = Unit {0}
IsShutIn b (code.And l r) = IsShut b l × IsShut b r
IsShutIn b (code.Or l r) = IsShut b l × IsShut b r
IsShutIn b (code.Implies c g) = Unit {0}
IsShutIn b (code.ForAll T t) = IsShut b t
IsShutIn b (code.Exists T t) = IsShut b t
IsShutIn b (code.Not g) = Unit {0}
IsShutIn b code.Atomic = Unit {0}

-- a search stays written where this holds
abbrev pub WritesWhere : (old new : Machine) → (Is : Type 0) → Type 0
WritesWhere m n Is = (ar : ℕ → ℕ) → StandsIn m → Is → IsWrittenSearch m ar → IsWrittenSearch n ar

-- a rule is the newest assumption, with these values
abbrev pub PushesRule : (old new : Machine) → (rule : ℕ) → Values → Type 0
PushesRule m n rule v = (o : Option ℕ) × (n.assumptions.items ≡ m.assumptions.items ++ record { rule = rule; values = v; older = o } ∷ [])

-- it is not so that these clauses are written in the place: one of them has no head by which an assumed clause is found
abbrev pub IsHeadless : Machine → Place → (rules : Span) → Type 0
IsHeadless m p s = (ar : ℕ → ℕ) → IsWrittenIn m.bank (blocks_of m.scopes) p.values.scope (λ k bs. WrittenRules m.bank (shown m.table) ar k bs s.from s.to) → ⊥

-- the first goal of the branch at work is a flattened one that is taken apart
pub record IsApartAtHand (m : Machine) : Type 0 where
  pub number : ℕ
  pub frame : Frame
  pub span : Span
  pub flat : Flat
  pub at_work : m.branch.goals ≡ Some number
  pub there : slice_get m.frames.items number ≡ Some frame
  pub todo : frame.todo ≡ Todo.Goals span
  pub first : slice_get m.table.goals.items span.from ≡ Some flat
  pub apart : IsApartFlat flat
