-- Whether the outermost list is one of goals: clauses that are assumed stand in a list of goals, and all that waits does but for the list of the formula itself.
use Rattle.std.specs.Prelude.{◌≡◌, Bool, true, false, Option, Some, None, List, [], ◌∷◌}
use Rattle.lp_normal.specs.declared.clauses.Assumed.{Assumed}
use Rattle.lp_normal.specs.declared.frame.Frame.{Frame}
use Rattle.lp_normal.specs.declared.frame.Inner.{Inner}
use Rattle.lp_normal.specs.declared.frame.Made.{Made}
use Rattle.lp_normal.specs.declared.frame.Move.{Move}

abbrev pub is_assumed : Option Assumed → Bool
is_assumed None = false
is_assumed (Some a) = true

abbrev pub is_in_goals : Inner → Bool
is_in_goals (Inner.Goals l) = true
is_in_goals (Inner.Clauses l) = is_assumed l.assumed

abbrev pub waits_in_goals : Frame → Bool
waits_in_goals (Frame.Left outer right) = true
waits_in_goals (Frame.Right outer left) = true
waits_in_goals (Frame.All outer bound) = true
waits_in_goals (Frame.Assume outer cs) = true
waits_in_goals (Frame.Not outer) = true
waits_in_goals (Frame.Body outer vars head) = is_assumed outer.assumed

abbrev pub are_goals : Made → Bool
are_goals (Made.Goals gs) = true
are_goals (Made.Clauses cs) = false

-- a list within these frames, the innermost first, of which the outermost is of the kind
abbrev pub IsNested : (kind : Bool) → (inner : Bool) → List Frame → Type 0
IsNested kind inner [] = inner ≡ kind
IsNested kind inner (f ∷ fs) = (inner ≡ true) × IsNested kind (waits_in_goals f) fs

abbrev pub IsMoveNested : Bool → Move → List Frame → Type 0
IsMoveNested kind (Move.On inner) fs = IsNested kind (is_in_goals inner) fs
IsMoveNested kind (Move.Done made) fs = are_goals made ≡ kind
