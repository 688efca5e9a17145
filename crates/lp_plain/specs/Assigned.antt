-- What `is` and the orders leave: their expressions evaluated, and then two terms made one, or two numbers compared.
use Rattle.std.specs.Prelude.{◌≡◌, ◌<◌, ℕ, Bool, true, false, ℤ, length, Result, Ok, Err}
use Rattle.lp_base.specs.declared.compare.Compare.{Compare}
use Rattle.lp_term.specs.Nodes.{tree}
use Rattle.lp_term.specs.declared.node.TermId.{TermId}
use Rattle.lp_model.specs.Pair.{Closing, closed}
use Rattle.lp_model.specs.Values as model
use Rattle.lp_model.specs.Values.{ordered, term_of}
use Rattle.lp_model.specs.declared.ending.Ending.{Ending}
use Rattle.lp_model.specs.declared.ending.Ending.TheVariants.{Arithmetic, Deep}
use Rattle.lp_model.specs.declared.ending.Fault.TheVariants.{NotClosed}
use Rattle.lp_pattern.specs.Turning.{IsOpenReading}
use Rattle.lp_plain.specs.declared.arithmetic.Outcome.{Outcome}
use Rattle.lp_plain.specs.declared.arithmetic.Outcome.TheVariants as code
use Rattle.lp_plain.specs.declared.arithmetic.Value.{Value}
use Rattle.lp_plain.specs.declared.arithmetic.Value.TheVariants as kept
use Rattle.lp_plain.specs.declared.machine.Machine.{Machine}
use Rattle.lp_plain.specs.declared.outcome.Turn.{Turn}
use Rattle.lp_plain.specs.declared.unified.Unified.{Unified}
use Rattle.lp_plain.specs.Evaluated.{EvaluatesTo, IsValueIn}
use Rattle.lp_plain.specs.Forms.{order_number}
use Rattle.lp_plain.specs.HeadLooks.{OnlyBank}
use Rattle.lp_plain.specs.Moving.{turn_for}
use Rattle.lp_plain.specs.Unifying.{IsBoundIn, IsEquatedAs, StandPairs}

-- a term was evaluated, and nothing but the bank changed
pub record IsEvaluated (old new : Machine) (t : TermId) (o : Outcome) : Type 0 where
  pub bank : OnlyBank old new
  pub value : t.0 < length old.bank.terms → (z : Closing) → IsOpenReading old.bank old.bindings old.branch.next z → EvaluatesTo new.bank o (closed z (tree old.bank t.0))

-- a value as a term of the bank was made one with another term
pub record IsAssigned (old new : Machine) (left : TermId) (level : ℕ) (v : Value) (turn : Turn) : Type 0 where
  pub between : Machine
  pub bank : OnlyBank old between
  pub term : TermId
  pub same : Unified
  pub term_is : (m : model.Value) → IsValueIn old.bank v m → tree between.bank term.0 ≡ term_of m
  pub bound : IsBoundIn between new
  pub residual : StandPairs between → StandPairs new
  pub equated : IsEquatedAs between new left term level same
  pub is : turn ≡ turn_for same

-- by what the right side came to
abbrev pub AssignsBy : Outcome → (old new : Machine) → (left : TermId) → (level : ℕ) → Turn → Type 0
AssignsBy (code.Is v) m n l i turn = IsAssigned m n l i v turn
AssignsBy (code.Faults f) m n l i turn = turn ≡ Turn.Ended (Arithmetic f)
AssignsBy code.Deep m n l i turn = turn ≡ Turn.Ended Deep

pub record Assigns (old new : Machine) (left right : TermId) (level : ℕ) (turn : Turn) : Type 0 where
  pub outcome : Outcome
  pub between : Machine
  pub evaluated : IsEvaluated old between right outcome
  pub by : AssignsBy outcome between new left level turn

-- a number, or how the search ends
abbrev pub IsNumberOr : Outcome → Result ℤ Ending → Type 0
IsNumberOr (code.Is (kept.Number x)) r = r ≡ Ok x
IsNumberOr (code.Is (kept.Text t)) r = r ≡ Err (Arithmetic NotClosed)
IsNumberOr (code.Faults f) r = r ≡ Err (Arithmetic f)
IsNumberOr code.Deep r = r ≡ Err Deep

pub record IsNumber (old new : Machine) (t : TermId) (r : Result ℤ Ending) : Type 0 where
  pub outcome : Outcome
  pub evaluated : IsEvaluated old new t outcome
  pub is : IsNumberOr outcome r

-- the turn of a comparison
abbrev pub turn_if : Bool → Turn
turn_if true = Turn.On
turn_if false = Turn.Back

-- by what the right side came to
abbrev pub ComparesWith : ℤ → Result ℤ Ending → Compare → Turn → Type 0
ComparesWith x (Err e) o turn = turn ≡ Turn.Ended e
ComparesWith x (Ok y) o turn = turn ≡ turn_if (ordered (order_number o) x y)

-- by what the left side came to: the right side is looked at where that is a number
abbrev pub ComparesBy : Result ℤ Ending → (old new : Machine) → Compare → (right : TermId) → Turn → Type 0
ComparesBy (Err e) m n o r turn = turn ≡ Turn.Ended e
ComparesBy (Ok x) m n o r turn = (y : Result ℤ Ending) × IsNumber m n r y × ComparesWith x y o turn

pub record Compares (old new : Machine) (o : Compare) (left right : TermId) (turn : Turn) : Type 0 where
  pub first : Result ℤ Ending
  pub between : Machine
  pub number : IsNumber old between left first
  pub by : ComparesBy first between new o right turn
