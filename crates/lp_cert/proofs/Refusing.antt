-- A term that is refused for a type or a variable does not fit it.
use Rattle.std.proofs.Common.{◌≡◌, ℕ, ◌<◌, List, [], length, sym, subst, ◌∙◌, Bool, false}
use Rattle.std.specs.Prelude.{Result, Ok, Err, IfOk}
use Rattle.std.proofs.Math.Path.{transport}
use Rattle.std.proofs.lemmas.List.{length-map}
use Rattle.lp_base.specs.declared.memory.Memory.{Memory}
use Rattle.lp_calculus.specs.Closed.{AllAtoms, AreClosed, IsClosedAt, IsClosedType}
use Rattle.lp_calculus.specs.Typing as typing
use Rattle.lp_standard.specs.Positive.{IsPositive, is_positive}
use Rattle.lp_term.specs.Nodes.{Nodes, Extends, tree, type_tree}
use Rattle.lp_term.specs.declared.node.TypeId.{TypeId}
use Rattle.lp_term.specs.declared.node.TermId.{TermId}
use Rattle.lp_model.specs.Proofs.{IsFormula, under}
use Rattle.lp_model.specs.Readings.{declared_by}
use Rattle.lp_cert.specs.Facts.{is_closed_type}
use Rattle.lp_cert.specs.Inside.{AreDeclaredInside}
use Rattle.lp_cert.specs.Same.{types_in}
use Rattle.lp_cert.specs.declared.work.Work.{Work}
use Rattle.lp_cert.specs.inner.Named.{HasClosedTypes, IsOf, IsSettled, IsWitnessIn}
use Rattle.lp_cert.proofs.Closing.{closed_is, positive_is}
use Rattle.lp_cert.proofs.ClosedTypes.{closed_has}

-- it is not closed
pub of_open : (a : Nodes) (w : Work) (n : ℕ) (term : TermId) (of : TypeId) → n ≡ length w.eigens.items → term.0 < length a.terms → (IsClosedAt n (tree a term.0) → ⊥) → (b : Nodes) → Extends a b → IsOf b w term of → ⊥
of_open a w n term of e l h b g o =
    h (transport (λ j. IsClosedAt ((length-map w.eigens.items (λ t. type_tree b t.0) ∙ sym e) j) (g.same_terms term.0 l j)) o.closed)

-- the type is not closed
pub of_type_open : (a : Nodes) (w : Work) (term : TermId) (of : TypeId) → of.0 < length a.types → is_closed_type (type_tree a of.0) ≡ false → (b : Nodes) → Extends a b → IsOf b w term of → ⊥
of_type_open a w term of l e b g o = let c = closed_is (type_tree a of.0) (subst IsClosedType (g.same_types of.0 l) o.type_closed) in absurd (cc)

-- it has not the type
pub of_untyped : (a now : Nodes) (w : Work) (eigens : List TypeId) (n : ℕ) (term : TermId) (of : TypeId) (r : Result Bool Memory) → eigens ≡ w.eigens.items → IsClosedAt n (tree a term.0) → IsClosedType (type_tree a of.0) →
    IfOk r (λ done. done ≡ false → AllAtoms HasClosedTypes (tree a term.0) → term.0 < length a.terms → IsClosedType (type_tree a of.0) → AreClosed (types_in a eigens) → AreDeclaredInside (length a.types) w.theory.constants.now →
    (b : Nodes) → Extends now b → typing.Typed (under (declared_by b w.theory.constants.now) (types_in b eigens)) [] (tree b term.0) (type_tree b of.0) → ⊥) →
    IfOk r (λ done. done ≡ false → IsSettled a w → term.0 < length a.terms → of.0 < length a.types → (b : Nodes) → Extends now b → IsOf b w term of → ⊥)
of_untyped a now w eigens n term of (Err x) e c t h = tt
of_untyped a now w eigens n term of (Ok done) e c t h = λ q s l m b g o.
    h q (closed_has n (tree a term.0) c) l t (subst (λ ids. AreClosed (types_in a ids)) (sym e) s.eigens) s.constants b g
    (subst (λ ids. typing.Typed (under (declared_by b w.theory.constants.now) (types_in b ids)) [] (tree b term.0) (type_tree b of.0)) (sym e) o.typed)

-- it is not positive
pub witness_negative : (a : Nodes) (w : Work) (term : TermId) (of : TypeId) → term.0 < length a.terms → is_positive (tree a term.0) ≡ false → (b : Nodes) → Extends a b → IsWitnessIn b w term of → ⊥
witness_negative a w term of l e b g h = let p = positive_is (tree a term.0) (subst IsPositive (g.same_terms term.0 l) h.positive) in absurd (cc)

-- it does not fit the type; v is the work then
pub witness_untyped : (a now : Nodes) (w v : Work) (term : TermId) (of : TypeId) (r : Result Bool Memory) → v.theory ≡ w.theory → v.eigens ≡ w.eigens
    → IfOk r (λ done. done ≡ false → IsSettled a v → term.0 < length a.terms → of.0 < length a.types → (b : Nodes) → Extends now b → IsOf b v term of
    → ⊥) →
    IfOk r (λ done. done ≡ false → IsSettled a w → term.0 < length a.terms → of.0 < length a.types → (b : Nodes) → Extends now b → IsWitnessIn b w term of → ⊥)
witness_untyped a now w v term of (Err x) et ee h = tt
witness_untyped a now w v term of (Ok done) et ee h = λ q s l m b g o.
    h q (record { eigens = subst (λ x. AreClosed (types_in a x.items)) (sym ee) s.eigens; constants = subst (λ x. AreDeclaredInside (length a.types) x.constants.now) (sym et) s.constants }) l m b g
    (record {
      typed = transport (λ j. typing.Typed (under (declared_by b (sym et j).constants.now) (types_in b (sym ee j).items)) [] (tree b term.0) (type_tree b of.0)) o.typed;
      closed = transport (λ j. IsClosedAt (length (types_in b (sym ee j).items)) (tree b term.0)) o.closed;
      type_closed = o.type_closed;
    })

-- a formula is a closed term of type `o`
pub formula_is_of : (b : Nodes) (w : Work) (term : TermId) (of : TypeId) → type_tree b of.0 ≡ typing.o_type → IsFormula (declared_by b w.theory.constants.now) (types_in b w.eigens.items) (tree b term.0) → IsOf b w term of
formula_is_of b w term of e f = record {
  typed = subst (λ T. typing.Typed (under (declared_by b w.theory.constants.now) (types_in b w.eigens.items)) [] (tree b term.0) T) (sym e) f.typed;
  closed = f.closed;
  type_closed = subst IsClosedType (sym e) tt;
}
