-- Whether arithmetic holds, by normal forms and their values.
use Rattle.std.proofs.Common.{◌≡◌, ℕ, ℤ, ◌<◌, ◌≤◌, List, [], ◌∷◌, length, refl, sym, ap, subst, ◌∙◌, arith, true, false, inl, inr, ◌⊎◌}
use Rattle.std.specs.Prelude.{Result, Ok, Err, IfOk}
use Rattle.std.proofs.Math.Path.{transport}
use Rattle.lp_base.specs.declared.memory.Memory.{Memory}
use Rattle.lp_calculus.specs.Types.{Ty}
use Rattle.lp_calculus.specs.Term.{Term, Atom, atom, app, constant, integer, text}
use Rattle.lp_calculus.specs.Convert.{Anywhere, BetaEta, Converts, here, by_beta, by_eta}
use Rattle.lp_calculus.specs.Normal.{IsFormOf, IsNormal}
use Rattle.lp_calculus.proofs.BetaEta.{normal_same}
use Rattle.lp_calculus.proofs.Steps.{converts_on, converts_sym, converts_reduces}
use Rattle.lp_standard.specs.Connectives.{two}
use Rattle.lp_standard.specs.Numbers as number
use Rattle.lp_term.proofs.EtaForms.{forms_are_one}
use Rattle.lp_term.specs.Nodes.{Nodes, Extends, tree}
use Rattle.lp_term.specs.declared.node.TermId.{TermId}
use Rattle.lp_model.specs.Proofs.{IsArith}
use Rattle.lp_model.specs.Values.{Value, Number, Bytes, Is, HasValue, term_of, value, ordered}
use Rattle.lp_cert.specs.Run.{ArithNeeds, OneIsLarge}
use Rattle.lp_cert.specs.Same.{IsFormed}
use Rattle.lp_cert.specs.Shape.{AreOrdered, IsValued}
use Rattle.lp_cert.specs.inner.Turned.{Decides, IsComputed, IsReady}
use Rattle.lp_cert.specs.declared.form.Formed.{Formed}
use Rattle.lp_cert.specs.declared.form.Formed.TheVariants as formed
use Rattle.lp_cert.specs.declared.work.Turn.{Turn}
use Rattle.lp_cert.specs.declared.work.Turn.TheVariants as turn
use Rattle.lp_cert.proofs.Matching.{deep_is_large}
use Rattle.lp_cert.proofs.Running.{two_once}

-- two terms of which one has no normal form
pub without_decides : (P : Type 0) (t u : Term) (m n : Nodes) (x y : Formed) (r : Turn) → IsFormed t m x → IsFormed u n y → (x ≡ formed.Open → ⊥) → (y ≡ formed.Open → ⊥) → ((s q : TermId) → x ≡ formed.Is s → y ≡ formed.Is q → ⊥) → (r ≡ turn.On → ⊥) →
    (r ≡ turn.No → (x ≡ formed.Deep → ⊥) × (y ≡ formed.Deep → ⊥)) → (r ≡ turn.Deep → (x ≡ formed.Deep) ⊎ (y ≡ formed.Deep)) → Decides P t u r
without_decides P t u m n x y turn.On f g ox oy h on neither deep = absurd (on refl)
without_decides P t u m n x y turn.Deep f g ox oy h on neither deep = elim (deep refl) [ inl e ↦ inl (deep_is_large t m (subst (IsFormed t m) e f)) | inr e ↦ inr (deep_is_large u n (subst (IsFormed u n) e g)) ]
without_decides P t u m n formed.Deep y turn.No f g ox oy h on neither deep = absurd ((neither refl).0 refl)
without_decides P t u m n formed.Open y turn.No f g ox oy h on neither deep = absurd (ox refl)
without_decides P t u m n (formed.Is s) formed.Deep turn.No f g ox oy h on neither deep = absurd ((neither refl).1 refl)
without_decides P t u m n (formed.Is s) formed.Open turn.No f g ox oy h on neither deep = absurd (oy refl)
without_decides P t u m n (formed.Is s) (formed.Is q) turn.No f g ox oy h on neither deep = absurd (h s q refl refl)

-- an atom is a normal form
atom_normal : (a : Atom) → IsNormal (atom a)
atom_normal a s (here x) = elim x [ ]

term_normal : (v : Value) → IsNormal (term_of v)
term_normal (Number z) = atom_normal (integer z)
term_normal (Bytes s) = atom_normal (text s)

-- the value of an expression is that of its normal form
pub value_is : (e f : Term) (v : Value) → IsFormOf e f → HasValue e v → value f ≡ Is v
value_is e f v g h = ap value (forms_are_one e f h.form g h.is_form) ∙ h.is

pub form_is_value : (t f : Term) (v : Value) → IsFormOf t f → Converts t (term_of v) → f ≡ term_of v
form_is_value t f v g c = normal_same f (term_of v) g.1 (term_normal v) (converts_on (converts_sym (converts_reduces g.0)) c)

pub values_once : (e f : Term) (v w : Value) → IsFormOf e f → value f ≡ Is v → HasValue e w → v ≡ w
values_once e f v w g e1 h = let q = sym e1 ∙ value_is e f w g h in cc

-- an order has one number and two sides
two_same : (c d : ℕ) (A B C D : Term) → two c [] C D ≡ two d [] A B → (c ≡ d) × (C ≡ A) × (D ≡ B)
two_same c d A B C D e = (cc, cc, cc)

-- an evaluation, and an order, by their shape
pub evaluated : (r : Result Turn Memory) (a : Nodes) (goal term expression : TermId) → (of : Ty) × (tree a goal.0 ≡ two number.Is (of ∷ []) (tree a term.0) (tree a expression.0)) → (IsReady a goal → IsReady a term × IsReady a expression) →
    IfOk r (λ turn. IsReady a term → IsReady a expression → Decides (IsValued (tree a expression.0) (tree a term.0)) (tree a term.0) (tree a expression.0) turn) → IfOk r (λ turn. IsReady a goal → IsComputed (tree a goal.0) turn)
evaluated (Err x) a goal term expression e s k = tt
evaluated (Ok turn.On) a goal term expression e s k = λ g. let d = k (s g).0 (s g).1 in inl (e.0, tree a term.0, tree a expression.0, d.0, e.1, d.1, d.2)
evaluated (Ok turn.No) a goal term expression e s k = λ g q. k (s g).0 (s g).1 (elim q [
  | inl h ↦ (let o = two_once number.Is _ _ h.1 h.2 (tree a term.0) (tree a expression.0) (sym h.4 ∙ e.1) in (h.3, subst (λ x. HasValue x h.3) o.1 h.5, subst (λ x. Converts x (term_of h.3)) o.0 h.6))
  | inr h ↦ absurd (let x = h.7 in let y = e.1 in cc)
])
evaluated (Ok turn.Deep) a goal term expression e s k = λ g. inl (e.0, tree a term.0, tree a expression.0, e.1, k (s g).0 (s g).1)

pub compared : (r : Result Turn Memory) (a : Nodes) (goal left right : TermId) (c : ℕ) →
    ((T : Ty) (A B : Term) → tree a goal.0 ≡ two number.Is (T ∷ []) A B → ⊥) → number.Less ≤ c → c ≤ number.AtLeast → tree a goal.0 ≡ two c []
    (tree a left.0) (tree a right.0) → (IsReady a goal → IsReady a left × IsReady a right) →
    IfOk r (λ turn. IsReady a left → IsReady a right → Decides (AreOrdered c (tree a left.0) (tree a right.0)) (tree a left.0) (tree a right.0) turn) → IfOk r (λ turn. IsReady a goal → IsComputed (tree a goal.0) turn)
compared (Err x) a goal left right c n l m e s k = tt
compared (Ok turn.On) a goal left right c n l m e s k = λ g. let d = k (s g).0 (s g).1 in inr (c, tree a left.0, tree a right.0, d.0, d.1, l, m, e, d.2, d.3, d.4)
compared (Ok turn.No) a goal left right c n l m e s k = λ g q. elim q [
  | inl h ↦ n h.0 h.1 h.2 h.4
  | inr h ↦ (let o = two_same c h.0 h.1 h.2 (tree a left.0) (tree a right.0) (sym e ∙ h.7) in
      k (s g).0 (s g).1 (h.3, h.4, subst (λ x. HasValue x (Number h.3)) (sym o.1) h.8, subst (λ x. HasValue x (Number h.4)) (sym o.2) h.9, subst (λ x. ordered x h.3 h.4 ≡ true) (sym o.0) h.10))
]
compared (Ok turn.Deep) a goal left right c n l m e s k = λ g. inr (c, tree a left.0, tree a right.0, l, m, e, k (s g).0 (s g).1)

-- in the bank as it was
pub valued_before : (a n : Nodes) (e t : TermId) → Extends a n → e.0 < length a.terms → t.0 < length a.terms → IsValued (tree n e.0) (tree n t.0) → IsValued (tree a e.0) (tree a t.0)
valued_before a n e t g l m h = transport (λ j. IsValued (g.same_terms e.0 l j) (g.same_terms t.0 m j)) h

pub ordered_before : (a n : Nodes) (c : ℕ) (e t : TermId) → Extends a n → e.0 < length a.terms → t.0 < length a.terms → AreOrdered c (tree n e.0) (tree n t.0) → AreOrdered c (tree a e.0) (tree a t.0)
ordered_before a n c e t g l m h = transport (λ j. AreOrdered c (g.same_terms e.0 l j) (g.same_terms t.0 m j)) h

pub numbers_once : (e f : Term) (x y : ℤ) → IsFormOf e f → value f ≡ Is (Number x) → HasValue e (Number y) → x ≡ y
numbers_once e f x y g e1 h = let q = values_once e f (Number x) (Number y) g e1 h in cc
