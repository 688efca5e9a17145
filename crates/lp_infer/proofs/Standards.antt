-- The types of the fixed constants, by number.
use Rattle.std.proofs.Common.{◌≡◌, ℕ, zero, suc, ◌<◌, List, [], ◌∷◌, ◌++◌, map, length, Option, Some, None, refl, arith}
use Rattle.std.specs.Prelude.{slice_get}
use Rattle.lp_calculus.specs.Typing.{Scheme}
use Rattle.lp_standard.specs.declared.constant.Constant.{Constant}
use Rattle.lp_standard.specs.Schemes.{scheme, entry}

abbrev pub scheme_if : Option Constant → Option Scheme
scheme_if None = None
scheme_if (Some c) = scheme c

pub entry_at : (cs others : List Constant) (n : ℕ) → n < length cs → scheme_if (slice_get (cs ++ others) n) ≡ entry (map scheme cs) n
entry_at [] others n h = absurd (omega (arith, h))
entry_at (c ∷ cs) others zero h = refl
entry_at (c ∷ cs) others (suc n) h = entry_at cs others n (omega (arith, h))
