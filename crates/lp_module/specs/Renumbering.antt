-- The numbers that the names of a copy have in the program.
use Rattle.std.specs.Prelude.{ℕ, ◌-◌, Option, Some, None, slice_get, nat_lt, if◌then◌else◌}
use Rattle.lp_term.specs.Mapped.{Told}
use Rattle.lp_term.specs.declared.becomes.TypeChange.{TypeChange}
use Rattle.lp_term.specs.declared.becomes.TermChange.{TermChange}
use Rattle.lp_module.specs.declared.numbers.Numbers.{Numbers}
use Rattle.lp_module.specs.declared.numbers.Names.{Names}

-- the number that is kept at a place, if there is one
abbrev pub kept_or : Option ℕ → ℕ → ℕ
kept_or None k = k
kept_or (Some new) k = new

-- a number below the first stays
abbrev pub number_in : Numbers → ℕ → ℕ
number_in n k = if nat_lt k n.first then k else kept_or (slice_get n.numbers.items (k - n.first)) k

-- kinds and constants have the numbers of the program; variables stay
abbrev pub renumbered : Names → Told
renumbered n = record { kinds = number_in n.kinds; constants = number_in n.constants; types = λ x. TypeChange.Var x; terms = λ x. TermChange.Stays }
