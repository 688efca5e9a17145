-- What terms and types are under bindings: their trees with all bindings put in. A closing is read off the bindings where it has for each
-- variable that is bound what its value is under the bindings, and for each other one the variable itself.
use Rattle.std.specs.Prelude.{◌≡◌, ℕ, ◌<◌, nat_eq, length, Option, Some, None}
use Rattle.indexmap.specs.IndexMap.{get}
use Rattle.lp_calculus.specs.Types.{Ty, var, param, con, arrow, instance}
use Rattle.lp_calculus.specs.Term.{Term, atom, logic}
use Rattle.lp_calculus.specs.Fill.{fill, raise, at_variables}
use Rattle.lp_calculus.specs.Instance.{instance_term}
use Rattle.lp_term.specs.Nodes.{Nodes, tree, type_tree}
use Rattle.lp_term.specs.declared.node.TermId.{TermId}
use Rattle.lp_term.specs.declared.node.TypeId.{TypeId}
use Rattle.lp_model.specs.Pair.{Closing, closed}
use Rattle.lp_pattern.specs.declared.bindings.Bindings.{Bindings}

abbrev pub ValueIs : Nodes → Closing → (x : ℕ) → Option TermId → Type 0
ValueIs b c x None = (l : ℕ) → c.terms x l ≡ atom (logic x l)
ValueIs b c x (Some t) = (t.0 < length b.terms) × ((l : ℕ) → c.terms x l ≡ closed c (tree b t.0))

abbrev pub TypeIs : Nodes → (ℕ → Ty) → (x : ℕ) → Option TypeId → Type 0
TypeIs b θ x None = θ x ≡ var x
TypeIs b θ x (Some t) = (t.0 < length b.types) × (θ x ≡ instance θ (type_tree b t.0))

abbrev pub AreTypes : Nodes → Bindings → (ℕ → Ty) → Type 0
AreTypes b s θ = (x : ℕ) → TypeIs b θ x (get nat_eq s.types x)

pub record IsReading (b : Nodes) (s : Bindings) (c : Closing) : Type 0 where
  pub terms : (x : ℕ) → ValueIs b c x (get nat_eq s.terms x)
  pub types : AreTypes b s c.types

-- the term at a number
abbrev pub under : Nodes → Closing → TermId → Term
under b c t = closed c (tree b t.0)

-- the body of an abstraction
abbrev pub below : Closing → Term → Term
below c t = fill (raise (at_variables c.terms)) (instance_term c.types t)

-- a type that is no bound variable
abbrev pub IsUnbound : Bindings → Ty → Type 0
IsUnbound s (var x) = get nat_eq s.types x ≡ None
IsUnbound s (param k) = Unit {0}
IsUnbound s (con k ts) = Unit {0}
IsUnbound s (arrow a b) = Unit {0}
