-- That numbers are of a bank. As a bank grows they stay so.
use Rattle.std.specs.Prelude.{◌≡◌, ◌<◌, List, length, map, All}
use Rattle.lp_term.specs.Nodes.{Nodes, tree, type_tree}
use Rattle.lp_term.specs.declared.node.TermId.{TermId}
use Rattle.lp_term.specs.declared.node.TypeId.{TypeId}

abbrev pub IsTermOf : Nodes → TermId → Type 0
IsTermOf b t = t.0 < length b.terms

abbrev pub AreTermsOf : Nodes → List TermId → Type 0
AreTermsOf b ids = All (IsTermOf b) ids

abbrev pub IsTypeOf : Nodes → TypeId → Type 0
IsTypeOf b t = t.0 < length b.types

abbrev pub AreTypesOf : Nodes → List TypeId → Type 0
AreTypesOf b ids = All (IsTypeOf b) ids

-- terms of the later bank with the trees that these have in the earlier one
pub record AreInPlaceOf (b c : Nodes) (ids made : List TermId) : Type 0 where
  pub within : All (λ i. i < length c.terms) (map (λ t. t.0) made)
  pub trees : map (λ t. tree c t.0) made ≡ map (λ t. tree b t.0) ids

pub record AreTypesInPlaceOf (b c : Nodes) (ids made : List TypeId) : Type 0 where
  pub within : All (λ i. i < length c.types) (map (λ t. t.0) made)
  pub trees : map (λ t. type_tree c t.0) made ≡ map (λ t. type_tree b t.0) ids
