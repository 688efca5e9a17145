-- How many types kinds and constants take: those of the language, and the declared ones in their order, of which the first kind is 8 and the first constant 32.
use Rattle.std.specs.Prelude.{ℕ, ◌-◌, nat_lt, if◌then◌else◌, List, map, Option, Some, None, slice_get}
use Rattle.lp_standard.specs.declared.kind.Kind.{Kind}
use Rattle.lp_standard.specs.declared.constant.Constant.{Constant}
use Rattle.lp_standard.specs.Kinds as kinds
use Rattle.lp_standard.specs.Constants as constants
use Rattle.lp_standard.specs.Schemes.{scheme}
use Rattle.lp_calculus.specs.Typing.{Scheme}
use Rattle.lp_module.specs.declared.copies.Assembled.{Assembled}
use Rattle.lp_module.specs.declared.copies.GlobalName.{GlobalName}
use Rattle.lp_cert.specs.declared.arities.Arities.{Arities}

-- of the declared ones
pub record Counts : Type 0 where
  pub kinds : List ℕ
  pub constants : List ℕ

abbrev pub counted : List GlobalName → List ℕ
counted names = map (λ n. n.arity) names

abbrev pub counts_of : Arities → Counts
counts_of a = record { kinds = counted a.kinds.now; constants = counted a.constants.now }

abbrev pub counts_in : Assembled → Counts
counts_in names = record { kinds = counted names.kinds.items; constants = counted names.constants.items }

abbrev pub declared_count : List ℕ → (number first : ℕ) → Option ℕ
declared_count counts n first = if nat_lt n first then None else slice_get counts (n - first)

abbrev pub kind_count : Option Kind → Option ℕ → Option ℕ
kind_count (Some k) declared = Some (kinds.arity k)
kind_count None declared = declared

abbrev pub scheme_count : Option Scheme → Option ℕ
scheme_count (Some s) = Some s.count
scheme_count None = None

abbrev pub constant_count : Option Constant → Option ℕ → Option ℕ
constant_count (Some c) declared = scheme_count (scheme c)
constant_count None declared = declared

unfoldable pub count_of_kind : Counts → ℕ → Option ℕ
count_of_kind d k = kind_count (kinds.numbered k) (declared_count d.kinds k 8)

unfoldable pub count_of_constant : Counts → ℕ → Option ℕ
count_of_constant d c = constant_count (constants.numbered c) (declared_count d.constants c 32)
