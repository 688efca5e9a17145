-- Terms with all bindings put in.
use Rattle.std.specs.Prelude.{◌≡◌, ℕ, ◌<◌, List, map, length, All, Some, nat_eq}
use Rattle.indexmap.specs.IndexMap.{get}
use Rattle.lp_calculus.specs.Term.{atom, abs, apply, constant, param}
use Rattle.lp_term.specs.Nodes.{Nodes, tree, type_tree}
use Rattle.lp_term.specs.Within.{AreTypesOf}
use Rattle.lp_term.specs.declared.node.TermId.{TermId}
use Rattle.lp_model.specs.Pair.{Closing, closed}
use Rattle.lp_pattern.specs.Under.{IsReading}
use Rattle.lp_pattern.specs.Filling.{AreFilled}
use Rattle.lp_pattern.specs.declared.bindings.Bindings.{Bindings}
use Rattle.lp_pattern.specs.declared.fill.Shape.{Shape}
use Rattle.lp_pattern.specs.declared.fill.TermsFilled.{TermsFilled}

-- a term has become this one
pub record IsFilledTerm (b : Nodes) (c : Closing) (old new : ℕ) : Type 0 where
  pub known : old < length b.terms
  pub made : new < length b.terms
  pub is : tree b new ≡ closed c (tree b old)

-- all terms and types that were filled have become what they are under the bindings
pub record AreAllFilled (b : Nodes) (c : Closing) (done : TermsFilled) : Type 0 where
  pub terms : (i : ℕ) (j : TermId) → get nat_eq done.terms i ≡ Some j → IsFilledTerm b c i j.0
  pub types : AreFilled b c.types done.types

-- the terms of a list have become those of another
abbrev pub TermsBecome : Nodes → Closing → (olds news : List TermId) → Type 0
TermsBecome b c olds news = map (λ t. tree b t.0) news ≡ map (λ t. closed c (tree b t.0)) olds

-- a node by what has to be done with it
abbrev pub HasShape : Nodes → Bindings → ℕ → Shape → Type 0
HasShape b s i Shape.Leaf = (c : Closing) → IsReading b s c → closed c (tree b i) ≡ tree b i
HasShape b s i (Shape.Bound v) = (c : Closing) → IsReading b s c → closed c (tree b i) ≡ closed c (tree b v.0)
HasShape b s i (Shape.Typed n types) = AreTypesOf b types.items × (tree b i ≡ atom (constant n (map (λ t. type_tree b t.0) types.items)))
HasShape b s i (Shape.Parameter n of) = (of.0 < length b.types) × (tree b i ≡ atom (param n (type_tree b of.0)))
HasShape b s i (Shape.Abstraction body) = tree b i ≡ abs (tree b body.0)
HasShape b s i (Shape.Application head arguments) = tree b i ≡ apply (tree b head.0) (map (λ t. tree b t.0) arguments.items)

-- what a term becomes is known
pub record IsMade (b d : Nodes) (c : Closing) (i : ℕ) (t : TermId) : Type 0 where
  pub within : t.0 < length d.terms
  pub is : tree d t.0 ≡ closed c (tree b i)

-- what has to be done with a node is done with terms of the bank
abbrev pub AreIn : Nodes → Shape → Type 0
AreIn b Shape.Leaf = Unit {0}
AreIn b (Shape.Bound v) = v.0 < length b.terms
AreIn b (Shape.Typed n types) = Unit {0}
AreIn b (Shape.Parameter n of) = Unit {0}
AreIn b (Shape.Abstraction body) = body.0 < length b.terms
AreIn b (Shape.Application head arguments) = (head.0 < length b.terms) × All (λ t. t.0 < length b.terms) arguments.items
