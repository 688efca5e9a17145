-- Eta contraction changes nothing of the outcome of a typed expression, so the fault of the beta-normal form is that of the definition.
use Rattle.std.proofs.Common.{◌≡◌, ℕ, zero, suc, ◌<◌, List, length, refl, sym, ap, ◌∙◌, subst, arith, Bool, true, false, nat_eq, if◌then◌else◌, Option, Some, None, inl, inr}
use Rattle.std.proofs.lemmas.Bool.Decides.{nat_tests}
use Rattle.lp_lemmas.proofs.Options.{option_map_some}
use Rattle.lp_calculus.specs.Types.{Ty, arrow, instance}
use Rattle.lp_calculus.specs.Term.{Term, index, atom, abs, app, constant, integer, text, eigen, logic, param}
use Rattle.lp_calculus.specs.Convert.{Reduces, done, then_step, leftmost_step}
use Rattle.lp_calculus.specs.Normal.{IsBetaNormal, eta_normal}
use Rattle.lp_calculus.specs.Typing.{Context, Typed, atom_type, type_at, scheme_type, int_type, string_type}
use Rattle.lp_calculus.proofs.Subject.{typed_reduces}
use Rattle.lp_standard.specs.Constants.{number, numbered}
use Rattle.lp_standard.specs.declared.constant.Constant.{Constant}
use Rattle.lp_standard.specs.declared.constant.Constant.TheVariants as fixed
use Rattle.lp_standard.specs.Connectives.{two}
use Rattle.lp_standard.specs.Schemes.{IsStandard, plain, on_two, entry, standard_schemes}
use Rattle.lp_model.specs.declared.ending.Fault.{Fault}
use Rattle.lp_model.specs.declared.ending.Fault.TheVariants.{NotClosed}
use Rattle.lp_model.specs.Eigens.{beta_normal}
use Rattle.lp_model.specs.Values.{Outcome, Faults, both, single, is_two_place, is_one_place, value, evaluate}
use Rattle.lp_model.proofs.Numbers.{number_back}
use Rattle.lp_susp.proofs.Plugs.{leftmost_beta}
use Rattle.lp_arith.specs.Meaning.{HasFault, IsValueType}
use Rattle.lp_arith.proofs.Shapes.{at_least}
use Rattle.lp_arith.proofs.Trees.{reduces_to, one_normal, left_normal, right_normal}

-- the operands of an operation are of the types of values

abbrev IsSum : ℕ → Type 0
IsSum c = (S : Ty) × IsValueType S × (entry standard_schemes c ≡ plain (on_two S S)) × (c < 32)

abbrev IsSign : ℕ → Type 0
IsSign c = (S : Ty) × IsValueType S × (entry standard_schemes c ≡ plain (arrow S int_type)) × (c < 32)

sum_of : (k : Constant) → is_two_place (number k) ≡ true → IsSum (number k)
sum_of fixed.Add h = (int_type, inl refl, refl, omega arith)
sum_of fixed.Subtract h = (int_type, inl refl, refl, omega arith)
sum_of fixed.Multiply h = (int_type, inl refl, refl, omega arith)
sum_of fixed.Divide h = (int_type, inl refl, refl, omega arith)
sum_of fixed.Remainder h = (int_type, inl refl, refl, omega arith)
sum_of fixed.Concatenate h = (string_type, inr refl, refl, omega arith)
sum_of _ h = absurd (cc)

sign_of : (k : Constant) → is_one_place (number k) ≡ true → IsSign (number k)
sign_of fixed.Negate h = (int_type, inl refl, refl, omega arith)
sign_of fixed.Size h = (string_type, inr refl, refl, omega arith)
sign_of _ h = absurd (cc)

is_sum : (c : ℕ) → is_two_place c ≡ true → IsSum c
is_sum c h = go (numbered c) refl
  where
    go : (o : Option Constant) → numbered c ≡ o → IsSum c
    go None e = (let k = at_least c e in absurd (grind (k, h, arith, nat_tests)))
    go (Some k) e = (let q = number_back c k e in subst IsSum (sym q) (sum_of k (ap is_two_place (sym q) ∙ h)))

is_sign : (c : ℕ) → is_one_place c ≡ true → IsSign c
is_sign c h = go (numbered c) refl
  where
    go : (o : Option Constant) → numbered c ≡ o → IsSign c
    go None e = (let k = at_least c e in absurd (grind (k, h, arith, nat_tests)))
    go (Some k) e = (let q = number_back c k e in subst IsSign (sym q) (sign_of k (ap is_one_place (sym q) ∙ h)))

plain_is : (ts : List Ty) (S X : Ty) → scheme_type ts (plain S) ≡ Some X → instance (type_at ts) S ≡ X
plain_is ts S X e = go (nat_eq (length ts) 0) e
  where
    go : (t : Bool) → (if t then Some (instance (type_at ts) S) else None) ≡ Some X → instance (type_at ts) S ≡ X
    go true f = cc
    go false f = absurd (cc)

stays : (f : ℕ → Ty) (S : Ty) → IsValueType S → instance f S ≡ S
stays f S (inl e) = ap (instance f) e ∙ sym e
stays f S (inr e) = ap (instance f) e ∙ sym e

arrow_first : (A B R S : Ty) → arrow A B ≡ arrow R S → A ≡ R
arrow_first A B R S e = cc

arrow_second : (A B R S : Ty) → arrow A B ≡ arrow R S → B ≡ S
arrow_second A B R S e = cc

module _ (K : Context) (std : IsStandard K.declared) (C : List Ty) where
  operands : (c : ℕ) (ts : List Ty) (a b : Term) (T : Ty) → is_two_place c ≡ true → Typed K C (two c ts a b) T → (S : Ty) × IsValueType S × Typed K C a S × Typed K C b S
  operands c ts a b T t h =
      let k = is_sum c t in
      let q = plain_is ts (on_two k.0 k.0) (arrow h.1.0 (arrow h.0 T)) (sym (ap (scheme_type ts) (std.at c k.3 ∙ k.2)) ∙ h.1.1) in
      let s = stays (type_at ts) k.0 k.1 in
      let m : k.0 ≡ h.1.0 = sym s ∙ arrow_first _ _ _ _ q in
      let n : k.0 ≡ h.0 = sym s ∙ arrow_first _ _ _ _ (arrow_second _ _ _ _ q) in
      (k.0, k.1, subst (Typed K C a) (sym m) h.1.2, subst (Typed K C b) (sym n) h.2)

  operand : (c : ℕ) (ts : List Ty) (a : Term) (T : Ty) → is_one_place c ≡ true → Typed K C (app (atom (constant c ts)) a) T → (S : Ty) × IsValueType S × Typed K C a S
  operand c ts a T t h =
      let k = is_sign c t in
      let q = plain_is ts (arrow k.0 int_type) (arrow h.0 T) (sym (ap (scheme_type ts) (std.at c k.3 ∙ k.2)) ∙ h.1) in
      let n : k.0 ≡ h.0 = sym (stays (type_at ts) k.0 k.1) ∙ arrow_first _ _ _ _ q in
      (k.0, k.1, subst (Typed K C a) (sym n) h.2)

  -- eta contraction of the operands is enough
  abbrev Stays : Term → Type 0
  Stays a = (S : Ty) → Typed K C a S → IsValueType S → value (eta_normal a) ≡ value a

  two_stay : (c : ℕ) (ts : List Ty) (a b : Term) (T : Ty) → Typed K C (two c ts a b) T → Stays a → Stays b → (t : Bool) → is_two_place c ≡ t → value (two c ts (eta_normal a) (eta_normal b)) ≡ value (two c ts a b)
  two_stay c ts a b T h f g false e = ap (λ o. if o then both c (value (eta_normal a)) (value (eta_normal b)) else Faults NotClosed) e ∙ sym (ap (λ o. if o then both c (value a) (value b) else Faults NotClosed) e)
  two_stay c ts a b T h f g true e =
      let k = operands c ts a b T e h in
      ap (λ x. if is_two_place c then both c x (value (eta_normal b)) else Faults NotClosed) (f k.0 k.2 k.1) ∙ ap (λ x. if is_two_place c then both c (value a) x else Faults NotClosed) (g k.0 k.3 k.1)

  one_stays : (c : ℕ) (ts : List Ty) (a : Term) (T : Ty) → Typed K C (app (atom (constant c ts)) a) T → Stays a → (t : Bool) → is_one_place c ≡ t → value (app (atom (constant c ts)) (eta_normal a)) ≡ value (app (atom (constant c ts)) a)
  one_stays c ts a T h f false e = ap (λ o. if o then single c (value (eta_normal a)) else Faults NotClosed) e ∙ sym (ap (λ o. if o then single c (value a) else Faults NotClosed) e)
  one_stays c ts a T h f true e = let k = operand c ts a T e h in ap (λ x. if is_one_place c then single c x else Faults NotClosed) (f k.0 k.2 k.1)

  eta_value : (t : Term) (T : Ty) → IsBetaNormal t → Typed K C t T → IsValueType T → value (eta_normal t) ≡ value t
  eta_value (index i) T n h v = refl
  eta_value (atom a) T n h v = refl
  eta_value (abs b) T n h (inl e) = (let q : arrow h.0 h.1 ≡ int_type = sym h.2 ∙ e in absurd (cc))
  eta_value (abs b) T n h (inr e) = (let q : arrow h.0 h.1 ≡ string_type = sym h.2 ∙ e in absurd (cc))
  eta_value (app (index i) u) T n h v = refl
  eta_value (app (abs b) u) T n h v = absurd (cc)
  eta_value (app (atom (constant c ts)) u) T n h v = one_stays c ts u T h (λ S k w. eta_value u S (one_normal c ts u n) k w) (is_one_place c) refl
  eta_value (app (atom (integer z)) u) T n h v = refl
  eta_value (app (atom (text s)) u) T n h v = refl
  eta_value (app (atom (eigen k)) u) T n h v = refl
  eta_value (app (atom (logic x l)) u) T n h v = refl
  eta_value (app (atom (param k U)) u) T n h v = refl
  eta_value (app (app (index i) a) b) T n h v = refl
  eta_value (app (app (abs d) a) b) T n h v = absurd (cc)
  eta_value (app (app (atom (constant c ts)) a) b) T n h v = two_stay c ts a b T h (λ S k w. eta_value a S (left_normal c ts a b n) k w) (λ S k w. eta_value b S (right_normal c ts a b n) k w) (is_two_place c) refl
  eta_value (app (app (atom (integer z)) a) b) T n h v = refl
  eta_value (app (app (atom (text s)) a) b) T n h v = refl
  eta_value (app (app (atom (eigen k)) a) b) T n h v = refl
  eta_value (app (app (atom (logic x l)) a) b) T n h v = refl
  eta_value (app (app (atom (param k U)) a) b) T n h v = refl
  eta_value (app (app (app f d) a) b) T n h v = refl

-- the steps that lead to the beta-normal form
form_reached : (n : ℕ) (t s : Term) → beta_normal n t ≡ Some s → Reduces t s × IsBetaNormal s
form_reached zero t s e = absurd (cc)
form_reached (suc n) t s e = elim (leftmost_step t) as (λ o. leftmost_step t ≡ o → (elim o as (λ x. Option Term) [ None ↦ Some t | Some x ↦ beta_normal n x ]) ≡ Some s → Reduces t s × IsBetaNormal s) [
  | None ↦ λ p q. let z : t ≡ s = cc in subst (λ x. Reduces t x × IsBetaNormal x) z (done t, p)
  | Some x ↦ λ p q. let k = form_reached n x s q in (then_step (leftmost_beta t x p) k.0, k.1)
] refl e

pub typed_fault : (K : Context) (C : List Ty) → IsStandard K.declared → (t : Term) (T : Ty) → Typed K C t T → IsValueType T → (f : Fault) → HasFault t f → (n : ℕ) (o : Outcome) → evaluate n t ≡ Some o → o ≡ Faults f
typed_fault K C std t T h v f q n o e =
    let m = option_map_some (beta_normal n t) (λ s. value (eta_normal s)) o e in
    let b = form_reached n t m.0 m.1 in
    sym m.2 ∙ eta_value K std C m.0 T b.1 (typed_reduces (atom_type K) C (reduces_to b.0) T h) v ∙ q m.0 b.0 b.1
