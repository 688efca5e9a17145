-- The state of the reader of types, as the machine's.
use Rattle.std.specs.Prelude.{◌≡◌, ℕ, List, [], ◌∷◌, ◌++◌}
use Rattle.lp_syntax.specs.declared.types.Waiting.{Waiting}
use Rattle.lp_syntax.specs.declared.types.Waiting.TheVariants as waiting
use Rattle.lp_syntax.specs.declared.types.Due.{Due}
use Rattle.lp_syntax.specs.declared.types.Due.TheVariants as due
use Rattle.lp_syntax.specs.declared.types.Turn.{Turn}
use Rattle.lp_syntax.specs.declared.types.Turn.TheVariants as turn
use Rattle.lp_syntax.specs.declared.types.Folded.{Folded}
use Rattle.lp_syntax.specs.declared.types.Folded.TheVariants as folded
use Rattle.lp_syntax.specs.declared.types.TypeEnd.{TypeEnd}
use Rattle.lp_syntax.specs.declared.types.TypeEnd.TheVariants.{Read, Stopped}
use Rattle.lp_syntax.specs.Tokens.{Lexeme, class_at, open_brackets}
use Rattle.lp_syntax.specs.TypeMachine.{Wait, AtArrow, AtGroup, AtArgument, Need, Wants, Applies, Has, TypeState, TypeMove, Goes, Ends, Stops, ts, type_step, Runs}
use Rattle.lp_syntax.specs.Faults.{innermost}

abbrev pub wait_of : Waiting → Wait
wait_of (waiting.Arrow l) = AtArrow
wait_of waiting.Group = AtGroup
wait_of (waiting.Argument s xs) = AtArgument

-- newest first
abbrev pub waits_of : List Waiting → List Wait
waits_of [] = []
waits_of (h ∷ hs) = waits_of hs ++ wait_of h ∷ []

abbrev pub need_of : Due → Need
need_of due.Wants = Wants
need_of (due.Applies s xs) = Applies
need_of (due.Has n) = Has

abbrev pub state_of : List Waiting → Due → TypeState
state_of hs d = ts (waits_of hs) (need_of d)

abbrev pub turn_of : List Waiting → Turn → TypeMove
turn_of hs (turn.Goes d) = Goes (state_of hs d)
turn_of hs (turn.Ends n) = Ends
turn_of hs turn.Stops = Stops

-- a closing bracket, and a token that belongs to no type, behind what was folded
abbrev pub closed_by : List Wait → Folded → TypeMove
closed_by ws (folded.Whole n) = Ends
closed_by ws (folded.Group n) = Goes (ts ws Has)
closed_by ws (folded.Argument s xs n) = Goes (ts ws Applies)

abbrev pub left_by : Folded → TypeMove
left_by (folded.Whole n) = Ends
left_by (folded.Group n) = Stops
left_by (folded.Argument s xs n) = Stops

-- the machine comes to this token, where it moves so
pub record ComesTo (ls : List Lexeme) (from at : ℕ) (m : TypeMove) : Type 0 where
  pub state : TypeState
  pub runs : Runs ls (ts [] Wants) from state at
  pub moves : type_step state (class_at ls at) ≡ m

abbrev pub IsTypeEnd : List Lexeme → ℕ → TypeEnd → Type 0
IsTypeEnd ls from (Read t at) = ComesTo ls from at Ends
IsTypeEnd ls from (Stopped at bracket) = ComesTo ls from at Stops × (bracket ≡ innermost (open_brackets ls from at))
