-- The measures of walks that keep what terms or types have become: at each turn one more has become something, or one more on the stack has become
-- nothing yet, or the stack is shorter. So many have room in memory.
use Rattle.std.specs.Prelude.{ℕ, ◌+◌, ◌-◌, ◌*◌, ◌<◌, ◌≤◌, List, [], ◌∷◌, length, Option, Some, None, nat_eq}
use Rattle.indexmap.specs.IndexMap.{get}
use Rattle.lp_term.specs.declared.node.TermId.{TermId}
use Rattle.lp_term.specs.declared.node.TypeId.{TypeId}
use Rattle.lp_pattern.specs.declared.fill.TermsFilled.{TermsFilled}
use Rattle.lp_pattern.specs.declared.fill_types.TypesFilled.{TypesFilled}

-- one where there is nothing
abbrev pub one_unless : {V : Type 0} → Option V → ℕ
one_unless None = 1
one_unless (Some v) = 0

-- how many of them have become nothing
abbrev pub unmade : {T V : Type 0} → (T → Option V) → List T → ℕ
unmade f [] = 0
unmade f (t ∷ ts) = one_unless (f t) + unmade f ts

-- what is looked for is there, or more of them have become nothing
abbrev pub IsFurther : {V : Type 0} → Option V → (old new : ℕ) → Type 0
IsFurther None u v = u < v
IsFurther (Some x) u v = u ≤ v

abbrev pub making : (made unmade length : ℕ) → ℕ
making m u n = ((18446744073709551616 - m) * 18446744073709551616 + (18446744073709551616 - u)) * 18446744073709551616 + n

-- what a term has become
abbrev pub term_made : TermsFilled → TermId → Option TermId
term_made d t = get nat_eq d.terms t.0

abbrev pub terms_left : TermsFilled → List TermId → ℕ
terms_left d ts = making (length d.terms.entries) (unmade (term_made d) ts) (length ts)

-- what a type has become
abbrev pub type_made : TypesFilled → TypeId → Option TypeId
type_made d t = get nat_eq d.made t.0

abbrev pub types_left : TypesFilled → List TypeId → ℕ
types_left d ts = making (length d.made.entries) (unmade (type_made d) ts) (length ts)
