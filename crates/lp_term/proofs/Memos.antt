-- What has been made by a walk.
use Rattle.std.proofs.Common.{◌≡◌, ℕ, ◌<◌, ◌≤◌, length, refl, sym, ap, ◌∙◌, subst as transport, Option, Some, None}
use Rattle.std.specs.Prelude.{is_some, true}
use Rattle.lp_calculus.specs.Term.{index}
use Rattle.lp_term.specs.Nodes.{Nodes, Extends, tree, type_tree}
use Rattle.lp_term.specs.Mapped.{Map, Told, IsMap, TypeIs, mapped, mapped_type}
use Rattle.lp_term.specs.Memo.{AreMade}
use Rattle.lp_term.specs.declared.becomes.TypeChange.{TypeChange}
use Rattle.lp_term.specs.declared.node.TypeId.{TypeId}
use Rattle.lp_term.specs.declared.changed.Changed.{Changed}
use Rattle.lp_term.specs.declared.walked.Node.{Node}
use Rattle.lp_term.specs.inner.Walking.{made_of, or_own, IsBegun, IsRight, AreRight}
use Rattle.lp_term.specs.inner.Rebuilt.{rebuilt_variable}
use Rattle.lp_term.proofs.Trees.{tree-past, type_tree-past}
use Rattle.lp_term.proofs.Walking.{right_later}

pub right_from : (m : Map) (b d : Nodes) (c : Changed) → AreMade m b d c → AreRight m b d c
right_from m b d c A (Node.Term i) j e = A.terms i j e
right_from m b d c A (Node.Type i) j e = A.types i j e

pub made_from : (m : Map) (b d e : Nodes) (c : Changed) → Extends d e → AreRight m b d c → AreMade m b e c
made_from m b d e c x A = record {
  terms = λ i j g. right_later m b d e x (Node.Term i) j (A (Node.Term i) j g);
  types = λ i j g. right_later m b d e x (Node.Type i) j (A (Node.Type i) j g);
}

pub made_later : (m : Map) (b d e : Nodes) (c : Changed) → Extends d e → AreMade m b d c → AreMade m b e c
made_later m b d e c x A = made_from m b d e c x (right_from m b d c A)

at_some : (m : Map) (b d : Nodes) (n : Node) (o : Option ℕ) → is_some o ≡ true → ((j : ℕ) → o ≡ Some j → IsRight m b d n j) → IsRight m b d n (or_own o 0)
at_some m b d n None k h = absurd (cc)
at_some m b d n (Some j) k h = h j refl

some_own : (o : Option ℕ) (i j : ℕ) → is_some o ≡ true → or_own o i ≡ or_own o j
some_own None i j k = absurd (cc)
some_own (Some x) i j k = refl

pub term_at_end : (m : Map) (b d : Nodes) (c : Changed) (i r : ℕ) → AreRight m b d c → IsBegun c (Node.Term i) → r ≡ or_own (made_of c (Node.Term i)) i → tree d r ≡ mapped m (tree b i)
term_at_end m b d c i r A k e =
    let o = made_of c (Node.Term i) in
    ap (tree d) (e ∙ some_own o i 0 k) ∙ (at_some m b d (Node.Term i) o k (λ j g. A (Node.Term i) j g)).1

pub type_at_end : (m : Map) (b d : Nodes) (c : Changed) (i r : ℕ) → AreRight m b d c → IsBegun c (Node.Type i) → r ≡ or_own (made_of c (Node.Type i)) i → type_tree d r ≡ mapped_type m (type_tree b i)
type_at_end m b d c i r A k e =
    let o = made_of c (Node.Type i) in
    ap (type_tree d) (e ∙ some_own o i 0 k) ∙ (at_some m b d (Node.Type i) o k (λ j g. A (Node.Type i) j g)).1

-- numbers outside
pub term_outside : (m : Map) (b : Nodes) (i : ℕ) → length b.terms ≤ i → index 0 ≡ mapped m (tree b i)
term_outside m b i l = ap (mapped m) (sym (tree-past b i l))

pub type_outside : (m : Map) (b : Nodes) (i : ℕ) → length b.types ≤ i → m.types 0 ≡ mapped_type m (type_tree b i)
type_outside m b i l = ap (mapped_type m) (sym (type_tree-past b i l))

told_variable : (f : Told) (m : Map) (b d : Nodes) (c : Changed) (k : TypeChange) → TypeIs f m b d (m.types 0) k → ((t : TypeId) → k ≡ TypeChange.As t → ⊥) → rebuilt_variable c d k ≡ m.types 0
told_variable f m b d c (TypeChange.Var y) h n = sym h
told_variable f m b d c (TypeChange.Is t) h n = sym h.1
told_variable f m b d c (TypeChange.As t) h n = absurd (n t refl)

pub variable_is : (f : Told) (m : Map) (b d : Nodes) (c : Changed) (k : TypeChange) → IsMap f m b d → ((t : TypeId) → k ≡ TypeChange.As t → ⊥) → k ≡ f.types 0 → rebuilt_variable c d k ≡ m.types 0
variable_is f m b d c k M n e = told_variable f m b d c k (transport (TypeIs f m b d (m.types 0)) (sym e) (M.types 0)) n

pub variable_as : (f : Told) (m : Map) (b d : Nodes) (k : TypeChange) (t : TypeId) → IsMap f m b d → k ≡ TypeChange.As t → k ≡ f.types 0 → (t.0 < length b.types) × (m.types 0 ≡ mapped_type m (type_tree b t.0))
variable_as f m b d k t M q e = let h : TypeIs f m b d (m.types 0) (TypeChange.As t) = transport (TypeIs f m b d (m.types 0)) (sym e ∙ q) (M.types 0) in (h.0, h.1)
