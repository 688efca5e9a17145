-- New numbers for the type variables of a clause.
use Rattle.std.specs.Prelude.{ℕ, ◌+◌, ◌-◌, ◌^◌, ◌≤◌, nat_lt, min, if◌then◌else◌}
use Rattle.lp_calculus.specs.Types.{Ty, var}
use Rattle.lp_term.specs.Mapped.{Told}
use Rattle.lp_term.specs.declared.becomes.TypeChange.{TypeChange}
use Rattle.lp_term.specs.declared.becomes.TermChange.{TermChange}
use Rattle.lp_plain.specs.declared.types.Renewal.{Renewal}

-- the clause's own variables get the numbers from the first one on
abbrev pub new_number : Renewal → ℕ → ℕ
new_number r i = if nat_lt i r.count then min (r.first + i) (2 ^ 64 - 1) else i

abbrev pub renewing : Renewal → ℕ → Ty
renewing r i = var (new_number r i)

abbrev pub renewing_told : Renewal → Told
renewing_told r = record { kinds = λ k. k; constants = λ c. c; types = λ i. TypeChange.Var (new_number r i); terms = λ x. TermChange.Stays }

-- the new numbers are numbers of 64 bits
abbrev pub Fits : Renewal → Type 0
Fits r = r.first + r.count ≤ 2 ^ 64
