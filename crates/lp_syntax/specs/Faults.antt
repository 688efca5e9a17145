-- Which fault it is that a text has at a token.
use Rattle.std.specs.Prelude.{ℕ, ◌-◌, List, length, slice_get, Option, Some, None}
use Rattle.lp_base.specs.declared.place.Spot.{Spot}
use Rattle.lp_syntax.specs.declared.class.Class.{Class}
use Rattle.lp_syntax.specs.declared.class.Class.TheVariants as class
use Rattle.lp_syntax.specs.declared.fault.SyntaxFault.{SyntaxFault}
use Rattle.lp_syntax.specs.declared.fault.SyntaxFault.TheVariants.{Unexpected, Unclosed, Unsupported}

-- at the end of the text it is the innermost open bracket, if there is one
abbrev pub refused : (ℕ → Spot) → ℕ → Option ℕ → Class → SyntaxFault
refused spot n bracket class.Unsupported = Unsupported (spot n)
refused spot n None class.End = Unexpected (spot n)
refused spot n (Some b) class.End = Unclosed (spot b)
refused spot n bracket _ = Unexpected (spot n)

-- the innermost of open brackets
abbrev pub innermost : List ℕ → Option ℕ
innermost bs = slice_get bs (length bs - 1)
