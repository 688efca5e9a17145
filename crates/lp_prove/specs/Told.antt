-- What becomes of variables.
use Rattle.std.specs.Prelude.{ℕ, Option, Some, None, slice_get, nat_eq}
use Rattle.std.specs.HashMap.{get}
use Rattle.lp_term.specs.Mapped.{Told}
use Rattle.lp_term.specs.declared.becomes.TypeChange.{TypeChange}
use Rattle.lp_term.specs.declared.becomes.TermChange.{TermChange}
use Rattle.lp_term.specs.declared.node.TermId.{TermId}
use Rattle.lp_term.specs.declared.node.TypeId.{TypeId}
use Rattle.lp_plain.specs.Held.{value_of, type_value_of}
use Rattle.lp_prove.specs.declared.bound.Bound.{Bound}
use Rattle.lp_prove.specs.declared.instance.Instance.{Instance}
use Rattle.lp_prove.specs.declared.closing.Closing.{Closing}

-- a bound variable becomes what its value becomes
abbrev pub through : Option TermId → TermChange
through None = TermChange.Stays
through (Some t) = TermChange.As t

abbrev pub type_through : ℕ → Option TypeId → TypeChange
type_through x None = TypeChange.Var x
type_through x (Some t) = TypeChange.As t

-- a variable becomes what is put for it
abbrev pub put : Option TermId → TermChange
put None = TermChange.Stays
put (Some t) = TermChange.Is t

abbrev pub type_put : ℕ → Option TypeId → TypeChange
type_put x None = TypeChange.Var x
type_put x (Some t) = TypeChange.Is t

abbrev pub bound_told : Bound → Told
bound_told b = record { kinds = λ k. k; constants = λ c. c; types = λ x. type_through x (type_value_of b.search.now x); terms = λ x. through (value_of b.search.now x) }

abbrev pub instance_told : Instance → Told
instance_told i = record { kinds = λ k. k; constants = λ c. c; types = λ x. type_put x (slice_get i.types.now x); terms = λ x. TermChange.Stays }

abbrev pub closing_told : Closing → Told
closing_told c = record { kinds = λ k. k; constants = λ k. k; types = λ x. type_put x (get nat_eq c.types x); terms = λ x. put (get nat_eq c.terms x) }
