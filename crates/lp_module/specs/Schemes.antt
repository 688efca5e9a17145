-- The declared types of constants.
use Rattle.std.specs.Prelude.{ℕ, ◌-◌, nat_lt, if◌then◌else◌, Option, Some, option_map, slice_get}
use Rattle.lp_calculus.specs.Typing.{Scheme, o_type}
use Rattle.lp_standard.specs.Schemes.{standard_schemes, entry}
use Rattle.lp_sig.specs.declared.signature.Signature.{Signature}
use Rattle.lp_infer.specs.Texts.{entry_scheme}

-- those of the standard constants, and those of the names of a signature, which have the numbers from 32
abbrev pub declared_schemes : Signature → ℕ → Option Scheme
declared_schemes sig c = if nat_lt c 32 then entry standard_schemes c else option_map (entry_scheme sig.bank) (slice_get sig.constants.items (c - 32))

-- of a query's constants nothing is known: each may head a clause
abbrev pub any_schemes : ℕ → Option Scheme
any_schemes c = Some (record { count = 0; body = o_type })
