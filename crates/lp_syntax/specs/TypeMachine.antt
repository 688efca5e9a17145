-- The reader of types: what it holds, and what one token does to it.
use Rattle.std.specs.Prelude.{◌≡◌, ℕ, suc, List, [], ◌∷◌}
use Rattle.lp_syntax.specs.declared.class.Class.{Class}
use Rattle.lp_syntax.specs.declared.class.Class.TheVariants.{Lower, Upper, Open, Close, Arrow}
use Rattle.lp_syntax.specs.Tokens.{Lexeme, class_at}

-- what waits, newest first
pub data Wait : Type 0 where
  -- an arrow for its right side
  AtArrow : Wait
  -- a bracket, and one round an argument
  AtGroup : Wait
  AtArgument : Wait

pub data Need : Type 0 where
  Wants : Need
  -- behind a kind and its arguments
  Applies : Need
  -- behind a type that takes none
  Has : Need

pub record TypeState : Type 0 where
  pub waits : List Wait
  pub need : Need

pub data TypeMove : Type 0 where
  Goes : TypeState → TypeMove
  -- the type ends before this token
  Ends : TypeMove
  Stops : TypeMove

abbrev pub ts : List Wait → Need → TypeState
ts ws n = record { waits = ws; need = n }

-- a closing bracket behind a type
abbrev pub closed : List Wait → TypeMove
closed [] = Ends
closed (AtArrow ∷ ws) = closed ws
closed (AtGroup ∷ ws) = Goes (ts ws Has)
closed (AtArgument ∷ ws) = Goes (ts ws Applies)

-- a token that belongs to no type, behind a type
abbrev pub left : List Wait → TypeMove
left [] = Ends
left (AtArrow ∷ ws) = left ws
left (AtGroup ∷ ws) = Stops
left (AtArgument ∷ ws) = Stops

abbrev pub type_wants : List Wait → Class → TypeMove
type_wants ws Lower = Goes (ts ws Applies)
type_wants ws Upper = Goes (ts ws Has)
type_wants ws Open = Goes (ts (AtGroup ∷ ws) Wants)
type_wants ws _ = Stops

abbrev pub type_has : List Wait → Class → TypeMove
type_has ws Arrow = Goes (ts (AtArrow ∷ ws) Wants)
type_has ws Close = closed ws
type_has ws _ = left ws

abbrev pub type_applies : List Wait → Class → TypeMove
type_applies ws Lower = Goes (ts ws Applies)
type_applies ws Upper = Goes (ts ws Applies)
type_applies ws Open = Goes (ts (AtArgument ∷ ws) Wants)
type_applies ws c = type_has ws c

abbrev pub type_step_in : List Wait → Need → Class → TypeMove
type_step_in ws Wants c = type_wants ws c
type_step_in ws Applies c = type_applies ws c
type_step_in ws Has c = type_has ws c

abbrev pub type_step : TypeState → Class → TypeMove
type_step s c = type_step_in s.waits s.need c

-- the tokens from one number up to another take one state to another
pub data Runs (ls : List Lexeme) : TypeState → ℕ → TypeState → ℕ → Type 0 where
  stays : (s : TypeState) (i : ℕ) → Runs ls s i s i
  goes : (s r q : TypeState) (i j : ℕ) → type_step s (class_at ls i) ≡ Goes r → Runs ls r (suc i) q j → Runs ls s i q j

abbrev pub IsHalt : TypeMove → Type 0
IsHalt (Goes s) = ⊥
IsHalt Ends = Unit {0}
IsHalt Stops = Unit {0}
