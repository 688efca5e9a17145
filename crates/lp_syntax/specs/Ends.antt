-- Where the reading of a type ended.
use Rattle.std.specs.Prelude.{ℕ, ◌≤◌}
use Rattle.lp_syntax.specs.declared.types.TypeEnd.{TypeEnd}
use Rattle.lp_syntax.specs.declared.types.TypeEnd.TheVariants.{Read, Stopped}

-- not before this token
abbrev pub IsFrom : ℕ → TypeEnd → Type 0
IsFrom n (Read t at) = n ≤ at
IsFrom n (Stopped at inner) = n ≤ at

-- not behind this token
abbrev pub IsUpTo : ℕ → TypeEnd → Type 0
IsUpTo n (Read t at) = at ≤ n
IsUpTo n (Stopped at inner) = at ≤ n
