-- A term as its head and the arguments of the head, and the variables of terms that are left to be looked at.
use Rattle.std.specs.Prelude.{◌≡◌, ℕ, ◌<◌, List, [], ◌∷◌, length, All}
use Rattle.lp_calculus.specs.Term.{Term, index, atom, abs, app, apply}
use Rattle.lp_term.specs.Nodes.{Nodes, tree}
use Rattle.lp_term.specs.Walk.{trees}
use Rattle.lp_term.specs.declared.node.TermId.{TermId}
use Rattle.lp_model.specs.Shown.{with_variables}
use Rattle.lp_show.specs.declared.spine.Spine.{Spine}

abbrev pub IsNoApplication : Term → Type 0
IsNoApplication (index i) = Unit {0}
IsNoApplication (atom a) = Unit {0}
IsNoApplication (abs b) = Unit {0}
IsNoApplication (app t u) = ⊥

-- the head and the arguments stand in the bank, and the head is no application
pub record IsSpineIn (b : Nodes) (spine : Spine) : Type 0 where
  pub head : spine.head.0 < length b.terms
  pub arguments : All (λ t. t.0 < length b.terms) spine.arguments.items
  pub alone : IsNoApplication (tree b spine.head.0)

-- the term is the head on these arguments, of which the last comes first
abbrev pub IsSpine : Nodes → (term : ℕ) → Spine → Type 0
IsSpine b term spine = IsSpineIn b spine × (tree b term ≡ apply (tree b spine.head.0) (trees b spine.arguments.items))

-- the variables of terms, of which the last comes first
abbrev pub with_all : Nodes → List ℕ → List TermId → List ℕ
with_all b vs [] = vs
with_all b vs (t ∷ ts) = with_variables (with_all b vs ts) (tree b t.0)
