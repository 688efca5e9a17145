-- A term by its head and its arguments, in a store.
use Rattle.std.specs.Prelude.{◌≡◌, ℕ, ◌+◌, ◌<◌, ◌≤◌, List, [], length, map, Option, Some, None, IfSome}
use Rattle.lp_calculus.specs.Term.{Term, apply}
use Rattle.lp_calculus.specs.Convert.{head_step, Reduces}
use Rattle.lp_store.specs.Contents.{Contents, span}
use Rattle.lp_store.specs.Reading.{Reads, ReadAll}
use Rattle.lp_store.specs.declared.cell.Cell.{Cell}
use Rattle.lp_store.specs.declared.cell.Cell.TheVariants.{Ref, App, Susp, Const, Int, Text, Eigen, Logic}
use Rattle.lp_store.specs.declared.cell.Span.{Span}
use Rattle.lp_goal.specs.declared.spine.Spine.{Spine}

abbrev pub IsListThere : Contents → Option Span → Type 0
IsListThere s o = IfSome o (λ l. l.from + l.count ≤ length s.items)

-- head and arguments stand in the store
abbrev pub IsThere : Contents → Spine → Type 0
IsThere s x = (x.head.0 < length s.cells) × IsListThere s x.arguments

-- what has no way further down to the head: neither a reference nor a suspension nor an application
abbrev pub IsTop : Cell → Type 0
IsTop (Ref to) = ⊥
IsTop (Susp b ol nl e) = ⊥
IsTop (App f l) = ⊥
IsTop _ = Unit {0}

-- what is the head of whatever it is applied to
abbrev pub IsHeadCell : Cell → Type 0
IsHeadCell (Const c l) = Unit {0}
IsHeadCell (Int z) = Unit {0}
IsHeadCell (Text l) = Unit {0}
IsHeadCell (Eigen k) = Unit {0}
IsHeadCell (Logic level) = Unit {0}
IsHeadCell _ = ⊥

-- the cells of a list
abbrev pub numbers : Contents → Span → List ℕ
numbers s l = map (λ t. t.0) (span s.items l.from l.count)

-- the cells of the arguments, if there are any
abbrev pub argument_cells : Contents → Option Span → List ℕ
argument_cells s None = []
argument_cells s (Some l) = numbers s l

-- head and arguments read as those of a head-normal form of the term
pub record IsSpineOf (s : Contents) (x : Spine) (t : Term) : Type 0 where
  pub head : Term
  pub arguments : List Term
  pub reduces : Reduces t (apply head arguments)
  pub normal : head_step (apply head arguments) ≡ None
  pub reads : Reads s x.head.0 head
  pub read_all : ReadAll s (argument_cells s x.arguments) arguments
