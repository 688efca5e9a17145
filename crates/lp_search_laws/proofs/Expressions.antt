-- Expressions that have a value: they are built of integers, strings and operations alone, so they are normal, and a closing changes nothing of their value.
use Rattle.std.proofs.Common.{◌≡◌, ℕ, List, map, Some, refl, sym, ap, ◌∙◌, subst as transport, Bool, true, false, if◌then◌else◌}
use Rattle.std.specs.Prelude.{ℤ}
use Rattle.lp_calculus.specs.Types.{Ty, instance}
use Rattle.lp_calculus.specs.Term.{Term, index, atom, abs, app, constant, integer, text, eigen, logic, param}
use Rattle.lp_calculus.specs.Convert.{here, in_head, in_argument, Converts, same}
use Rattle.lp_calculus.specs.Normal.{IsNormal, eta_normal}
use Rattle.lp_calculus.proofs.Steps.{Step, converts_on, converts_sym, converts_reduces}
use Rattle.lp_calculus.proofs.BetaEta.{normal_same}
use Rattle.lp_term.proofs.EtaForms.{form_is}
use Rattle.lp_model.specs.declared.ending.Fault.TheVariants.{NotClosed}
use Rattle.lp_model.specs.Pair.{Closing, closed}
use Rattle.lp_model.specs.Eigens.{beta_normal}
use Rattle.lp_model.specs.Values.{Value, Number, Bytes, Outcome, Is, Faults, both, single, binary, unary, is_two_place, is_one_place, value, evaluate, HasValue}
use Rattle.lp_search_laws.proofs.Closed.{closed_reduces}
use Rattle.lp_lemmas.proofs.Options.{option_map_some}
use Rattle.lp_unify_laws.proofs.Termination.SemiForms.{normal_of}

pub data Expression : Term → Value → Type 0 where
  of_number : (z : ℤ) → Expression (atom (integer z)) (Number z)
  of_text : (s : List ℕ) → Expression (atom (text s)) (Bytes s)
  of_two : (c : ℕ) (ts : List Ty) {a b : Term} {x y v : Value} → is_two_place c ≡ true → Expression a x → Expression b y → binary c x y ≡ Is v → Expression (app (app (atom (constant c ts)) a) b) v
  of_one : (c : ℕ) (ts : List Ty) {a : Term} {x v : Value} → is_one_place c ≡ true → Expression a x → unary c x ≡ Is v → Expression (app (atom (constant c ts)) a) v

two_of : (c : ℕ) (ts : List Ty) (a b : Term) (v : Value) → ((x : Value) → value a ≡ Is x → Expression a x) →
    ((x : Value) → value b ≡ Is x → Expression b x) → (t : Bool) → is_two_place c ≡ t → (o p : Outcome) → value a ≡ o → value b ≡ p →
    (if t then both c o p else Faults NotClosed) ≡ Is v → Expression (app (app (atom (constant c ts)) a) b) v
two_of c ts a b v f g false t o p h k e = absurd (cc)
two_of c ts a b v f g true t (Faults w) p h k e = absurd (cc)
two_of c ts a b v f g true t (Is x) (Faults w) h k e = absurd (cc)
two_of c ts a b v f g true t (Is x) (Is y) h k e = of_two c ts t (f x h) (g y k) e

one_of : (c : ℕ) (ts : List Ty) (a : Term) (v : Value) → ((x : Value) → value a ≡ Is x → Expression a x) → (t : Bool) → is_one_place c ≡ t → (o : Outcome) → value a ≡ o → (if t then single c o else Faults NotClosed) ≡ Is v → Expression (app (atom (constant c ts)) a) v
one_of c ts a v f false t o h e = absurd (cc)
one_of c ts a v f true t (Faults w) h e = absurd (cc)
one_of c ts a v f true t (Is x) h e = of_one c ts t (f x h) e

number_of : (z : ℤ) (v : Value) → value (atom (integer z)) ≡ Is v → Expression (atom (integer z)) v
number_of z v e = let q : Number z ≡ v = cc in transport (Expression (atom (integer z))) q (of_number z)

text_of : (s : List ℕ) (v : Value) → value (atom (text s)) ≡ Is v → Expression (atom (text s)) v
text_of s v e = let q : Bytes s ≡ v = cc in transport (Expression (atom (text s))) q (of_text s)

pub expression : (t : Term) (v : Value) → value t ≡ Is v → Expression t v
expression (index i) v e = absurd (cc)
expression (abs b) v e = absurd (cc)
expression (atom (constant c ts)) v e = absurd (cc)
expression (atom (integer z)) v e = number_of z v e
expression (atom (text s)) v e = text_of s v e
expression (atom (eigen k)) v e = absurd (cc)
expression (atom (logic x l)) v e = absurd (cc)
expression (atom (param k T)) v e = absurd (cc)
expression (app (index i) a) v e = absurd (cc)
expression (app (abs b) a) v e = absurd (cc)
expression (app (atom (constant c ts)) a) v e = one_of c ts a v (λ x h. expression a x h) (is_one_place c) refl (value a) refl e
expression (app (atom (integer z)) a) v e = absurd (cc)
expression (app (atom (text s)) a) v e = absurd (cc)
expression (app (atom (eigen k)) a) v e = absurd (cc)
expression (app (atom (logic x l)) a) v e = absurd (cc)
expression (app (atom (param k T)) a) v e = absurd (cc)
expression (app (app (index i) a) b) v e = absurd (cc)
expression (app (app (abs d) a) b) v e = absurd (cc)
expression (app (app (app f d) a) b) v e = absurd (cc)
expression (app (app (atom (constant c ts)) a) b) v e = two_of c ts a b v (λ x h. expression a x h) (λ x h. expression b x h) (is_two_place c) refl (value a) (value b) refl refl e
expression (app (app (atom (integer z)) a) b) v e = absurd (cc)
expression (app (app (atom (text s)) a) b) v e = absurd (cc)
expression (app (app (atom (eigen k)) a) b) v e = absurd (cc)
expression (app (app (atom (logic x l)) a) b) v e = absurd (cc)
expression (app (app (atom (param k T)) a) b) v e = absurd (cc)

pub value_of : {t : Term} {v : Value} → Expression t v → value t ≡ Is v
value_of (of_number z) = refl
value_of (of_text s) = refl
value_of (of_two c ts {a} {b} {x} {y} t p q e) = ap (λ o. if o then both c (value a) (value b) else Faults NotClosed) t ∙ ap (λ o. both c o (value b)) (value_of p) ∙ ap (both c (Is x)) (value_of q) ∙ e
value_of (of_one c ts {a} t p e) = ap (λ o. if o then single c (value a) else Faults NotClosed) t ∙ ap (single c) (value_of p) ∙ e

-- under a closing
pub expression_closed : (c : Closing) {t : Term} {v : Value} → Expression t v → Expression (closed c t) v
expression_closed c (of_number z) = of_number z
expression_closed c (of_text s) = of_text s
expression_closed c (of_two k ts t p q e) = of_two k (map (instance c.types) ts) t (expression_closed c p) (expression_closed c q) e
expression_closed c (of_one k ts t p e) = of_one k (map (instance c.types) ts) t (expression_closed c p) e

atom_stays : (k : ℕ) (ts : List Ty) (s : Term) → Step (atom (constant k ts)) s → ⊥
atom_stays k ts s (here x) = elim x [ ]

pub expression_normal : {t : Term} {v : Value} → Expression t v → IsNormal t
expression_normal (of_number z) s (here x) = elim x [ ]
expression_normal (of_text b) s (here x) = elim x [ ]
expression_normal (of_two k ts t p q e) s (here x) = elim x [ ]
expression_normal (of_two k ts t p q e) s (in_head u (here x)) = elim x [ ]
expression_normal (of_two k ts t p q e) s (in_head u (in_head w x)) = atom_stays k ts _ x
expression_normal (of_two k ts t p q e) s (in_head u (in_argument w x)) = expression_normal p _ x
expression_normal (of_two k ts t p q e) s (in_argument u x) = expression_normal q _ x
expression_normal (of_one k ts t p e) s (here x) = elim x [ ]
expression_normal (of_one k ts t p e) s (in_head u x) = atom_stays k ts _ x
expression_normal (of_one k ts t p e) s (in_argument u x) = expression_normal p _ x

pub evaluated : (n : ℕ) (t : Term) (v : Value) → evaluate n t ≡ Some (Is v) → HasValue t v
evaluated n t v e =
    let m = option_map_some (beta_normal n t) (λ s. value (eta_normal s)) (Is v) e in
    let z = normal_of n t m.0 m.1 in
    record { form = eta_normal m.0; is_form = form_is z.0 t m.0 z.1; is = m.2 }

pub value_closed : (c : Closing) (t : Term) (v : Value) → HasValue t v → HasValue (closed c t) v
value_closed c t v h =
    let x = expression_closed c (expression h.form v h.is) in
    record { form = closed c h.form; is_form = (closed_reduces c h.is_form.0, expression_normal x); is = value_of x }

pub one_value : (t u : Term) (v w : Value) → Converts t u → HasValue t v → HasValue u w → w ≡ v
one_value t u v w c h k =
    let e = normal_same h.form k.form h.is_form.1 k.is_form.1 (converts_on (converts_sym (converts_reduces h.is_form.0)) (converts_on c (converts_reduces k.is_form.0))) in
    let q : Is w ≡ Is v = sym k.is ∙ ap value (sym e) ∙ h.is in
    cc

pub under_closings : (n : ℕ) (t : Term) (v : Value) → evaluate n t ≡ Some (Is v) → (c : Closing) → HasValue (closed c t) v × ((w : Value) → HasValue (closed c t) w → w ≡ v)
under_closings n t v e c =
    let h = value_closed c t v (evaluated n t v e) in
    (h, λ w k. one_value (closed c t) (closed c t) v w (same (closed c t)) h k)
