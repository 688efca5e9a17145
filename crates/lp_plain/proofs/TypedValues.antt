-- Well-typed expressions: an abstraction that stands where a value is looked for has none.
use Rattle.std.proofs.Common.{◌≡◌, ℕ, suc, ◌≤◌, ◌<◌, List, refl, sym, ap, ◌∙◌, subst, arith, Bool, true, false, nat_eq, nat_le, if◌then◌else◌, Some, inl, inr}
use Rattle.std.specs.Prelude.{◌⊎◌}
use Rattle.std.proofs.lemmas.Bool.Decides.{nat_tests}
use Rattle.lp_calculus.specs.Normal.{IsBetaNormal, eta_normal}
use Rattle.lp_calculus.specs.Types.{Ty, arrow, con, no_types}
use Rattle.lp_calculus.specs.Term.{Term, index, atom, abs, app, constant, integer, text, eigen, logic, param}
use Rattle.lp_calculus.specs.Typing.{Context, Typed, atom_type, int_type, scheme_type, string_type}
use Rattle.lp_calculus.proofs.Subject.{typed_reduces}
use Rattle.lp_standard.specs.Schemes.{IsStandard, entry, on_two, plain, standard_schemes}
use Rattle.lp_term.proofs.EtaForms.{form_is}
use Rattle.lp_model.specs.Eigens.{beta_normal}
use Rattle.lp_model.specs.Values.{Faults, both, is_binary, is_one_place, is_two_place, single, value}
use Rattle.lp_model.specs.declared.ending.Fault.TheVariants.{NotClosed}
use Rattle.lp_unify_laws.proofs.Looks.{beta_reduces}
use Rattle.lp_unify_laws.proofs.Termination.SemiForms.{normal_of}
use Rattle.lp_search_laws.proofs.Computed.{both_true, either_true, is_number, not_above, plain_type}
use Rattle.lp_plain.specs.Evaluated.{IsNoFunction}

-- the numbers of the operations
next_number : (a c : ℕ) → a ≤ c → (c ≡ a) ⊎ (suc a ≤ c)
next_number a c l = go (nat_eq c a) refl
  where
    go : (t : Bool) → nat_eq c a ≡ t → (c ≡ a) ⊎ (suc a ≤ c)
    go true e = inl (is_number c a e)
    go false e = inr (grind (l, e, arith, nat_tests))

-- a type without parts
abbrev IsGround : Ty → Type 0
IsGround T = (k : ℕ) × (T ≡ con k no_types)

two_grounds : (A B T : Ty) (k : ℕ) → arrow A (arrow B T) ≡ arrow (con k no_types) (arrow (con k no_types) (con k no_types)) → IsGround A × IsGround B × IsGround T
two_grounds A B T k e =
    let a : A ≡ con k no_types = cc in
    let b : B ≡ con k no_types = cc in
    let t : T ≡ con k no_types = cc in
    ((k, a), (k, b), (k, t))

one_ground : (A T : Ty) (j k : ℕ) → arrow A T ≡ arrow (con j no_types) (con k no_types) → IsGround A × IsGround T
one_ground A T j k e =
    let a : A ≡ con j no_types = cc in
    let t : T ≡ con k no_types = cc in
    ((j, a), (k, t))

no_arrow : (A B : Ty) → IsGround (arrow A B) → ⊥
no_arrow A B g = let q = g.1 in cc

module _ (K : Context) (std : IsStandard K.declared) (C : List Ty) where
  abbrev IsTwo : ℕ → Type 0
  IsTwo c = (ts : List Ty) (A B T : Ty) → scheme_type ts (K.declared c) ≡ Some (arrow A (arrow B T)) → IsGround A × IsGround B × IsGround T

  two_at : (c k : ℕ) → c < 32 → entry standard_schemes c ≡ plain (on_two (con k no_types) (con k no_types)) → IsTwo c
  two_at c k l e ts A B T f = two_grounds A B T k (plain_type ts (on_two (con k no_types) (con k no_types)) (arrow A (arrow B T)) (sym (ap (scheme_type ts) (std.at c l ∙ e)) ∙ f)).1

  five : (c : ℕ) → 16 ≤ c → c ≤ 20 → IsTwo c
  five c l h = go (next_number 16 c l)
    where
      go4 : (c ≡ 19) ⊎ (20 ≤ c) → IsTwo c
      go4 (inl q) = subst IsTwo (sym q) (two_at 19 1 (omega arith) refl)
      go4 (inr m) = let q : 20 ≡ c = omega (m, h, arith) in subst IsTwo q (two_at 20 1 (omega arith) refl)

      go3 : (c ≡ 18) ⊎ (19 ≤ c) → IsTwo c
      go3 (inl q) = subst IsTwo (sym q) (two_at 18 1 (omega arith) refl)
      go3 (inr m) = go4 (next_number 19 c m)

      go2 : (c ≡ 17) ⊎ (18 ≤ c) → IsTwo c
      go2 (inl q) = subst IsTwo (sym q) (two_at 17 1 (omega arith) refl)
      go2 (inr m) = go3 (next_number 18 c m)

      go : (c ≡ 16) ⊎ (17 ≤ c) → IsTwo c
      go (inl q) = subst IsTwo (sym q) (two_at 16 1 (omega arith) refl)
      go (inr m) = go2 (next_number 17 c m)

  two_places : (c : ℕ) → is_two_place c ≡ true → IsTwo c
  two_places c t = go (either_true (is_binary c) (nat_eq c 22) t)
    where
      go : (is_binary c ≡ true) ⊎ (nat_eq c 22 ≡ true) → IsTwo c
      go (inl h) = let b = both_true (nat_le 16 c) (nat_le c 20) h in five c (not_above 16 c b.0) (not_above c 20 b.1)
      go (inr h) = subst IsTwo (sym (is_number c 22 h)) (two_at 22 2 (omega arith) refl)

  abbrev IsOne : ℕ → Type 0
  IsOne c = (ts : List Ty) (A T : Ty) → scheme_type ts (K.declared c) ≡ Some (arrow A T) → IsGround A × IsGround T

  one_at : (c j k : ℕ) → c < 32 → entry standard_schemes c ≡ plain (arrow (con j no_types) (con k no_types)) → IsOne c
  one_at c j k l e ts A T f = one_ground A T j k (plain_type ts (arrow (con j no_types) (con k no_types)) (arrow A T) (sym (ap (scheme_type ts) (std.at c l ∙ e)) ∙ f)).1

  one_place : (c : ℕ) → is_one_place c ≡ true → IsOne c
  one_place c t = go (either_true (nat_eq c 21) (nat_eq c 23) t)
    where
      go : (nat_eq c 21 ≡ true) ⊎ (nat_eq c 23 ≡ true) → IsOne c
      go (inl h) = subst IsOne (sym (is_number c 21 h)) (one_at 21 1 1 (omega arith) refl)
      go (inr h) = subst IsOne (sym (is_number c 23 h)) (one_at 23 2 1 (omega arith) refl)

  -- what has the type of a function has no value
  one_function : (c : ℕ) (ts : List Ty) (a : Term) (D A B : Ty) → scheme_type ts (K.declared c) ≡ Some (arrow D (arrow A B)) → (t : Bool) → is_one_place c ≡ t → (if t then single c (value a) else Faults NotClosed) ≡ Faults NotClosed
  one_function c ts a D A B h true e = absurd (no_arrow A B (one_place c e ts D (arrow A B) h).1)
  one_function c ts a D A B h false e = refl

  two_function : (c : ℕ) (ts : List Ty) (a b : Term) (D E A B : Ty) → scheme_type ts (K.declared c) ≡ Some (arrow D (arrow E (arrow A B))) → (t : Bool) → is_two_place c ≡ t →
      (if t then both c (value a) (value b) else Faults NotClosed) ≡ Faults NotClosed
  two_function c ts a b D E A B h true e = absurd (no_arrow A B (two_places c e ts D E (arrow A B) h).2)
  two_function c ts a b D E A B h false e = refl

  function_value : (t : Term) (A B : Ty) → Typed K C t (arrow A B) → value t ≡ Faults NotClosed
  function_value (index i) A B h = refl
  function_value (abs b) A B h = refl
  function_value (atom (constant c ts)) A B h = refl
  function_value (atom (integer z)) A B h = let q : Some int_type ≡ Some (arrow A B) = h in absurd (cc)
  function_value (atom (text s)) A B h = let q : Some string_type ≡ Some (arrow A B) = h in absurd (cc)
  function_value (atom (eigen k)) A B h = refl
  function_value (atom (logic x l)) A B h = refl
  function_value (atom (param k T)) A B h = refl
  function_value (app (index i) a) A B h = refl
  function_value (app (abs b) a) A B h = refl
  function_value (app (atom (constant c ts)) a) A B h = one_function c ts a h.0 A B h.1 (is_one_place c) refl
  function_value (app (atom (integer z)) a) A B h = refl
  function_value (app (atom (text s)) a) A B h = refl
  function_value (app (atom (eigen k)) a) A B h = refl
  function_value (app (atom (logic x l)) a) A B h = refl
  function_value (app (atom (param k T)) a) A B h = refl
  function_value (app (app (index i) a) b) A B h = refl
  function_value (app (app (abs d) a) b) A B h = refl
  function_value (app (app (app f d) a) b) A B h = refl
  function_value (app (app (atom (constant c ts)) a) b) A B h = two_function c ts a b h.1.0 h.0 A B h.1.1 (is_two_place c) refl
  function_value (app (app (atom (integer z)) a) b) A B h = refl
  function_value (app (app (atom (text s)) a) b) A B h = refl
  function_value (app (app (atom (eigen k)) a) b) A B h = refl
  function_value (app (app (atom (logic x l)) a) b) A B h = refl
  function_value (app (app (atom (param k T)) a) b) A B h = refl

  -- an operand is no function
  operand : (s : Term) (T : Ty) → IsGround T → Typed K C s T → IsNoFunction s
  operand (index i) T g h = tt
  operand (atom a) T g h = tt
  operand (abs b) T g h = absurd (no_arrow h.0 h.1 (subst IsGround h.2 g))
  operand (app (index i) u) T g h = tt
  operand (app (abs b) u) T g h = tt
  operand (app (atom (constant c ts)) u) T g h = λ e. operand u h.0 (one_place c e ts h.0 T h.1).0 h.2
  operand (app (atom (integer z)) u) T g h = tt
  operand (app (atom (text s)) u) T g h = tt
  operand (app (atom (eigen k)) u) T g h = tt
  operand (app (atom (logic x l)) u) T g h = tt
  operand (app (atom (param k U)) u) T g h = tt
  operand (app (app (index i) v) u) T g h = tt
  operand (app (app (abs b) v) u) T g h = tt
  operand (app (app (app t w) v) u) T g h = tt
  operand (app (app (atom (constant c ts)) v) u) T g h = λ e. let w = two_places c e ts h.1.0 h.0 T h.1.1 in (operand v h.1.0 w.0 h.1.2, operand u h.0 w.1 h.2)
  operand (app (app (atom (integer z)) v) u) T g h = tt
  operand (app (app (atom (text s)) v) u) T g h = tt
  operand (app (app (atom (eigen k)) v) u) T g h = tt
  operand (app (app (atom (logic x l)) v) u) T g h = tt
  operand (app (app (atom (param k U)) v) u) T g h = tt

  -- a beta-normal expression that has a type
  pub typed_expression : (s : Term) (T : Ty) → IsBetaNormal s → Typed K C s T → IsNoFunction s
  typed_expression (index i) T n h = tt
  typed_expression (atom a) T n h = tt
  typed_expression (abs b) T n h =
      let f = form_is 0 (abs b) (abs b) (refl, n) in
      function_value (eta_normal (abs b)) h.0 h.1 (typed_reduces (atom_type K) C f.0 (arrow h.0 h.1) (h.0, h.1, refl, h.3))
  typed_expression (app (index i) u) T n h = tt
  typed_expression (app (abs b) u) T n h = tt
  typed_expression (app (atom (constant c ts)) u) T n h = λ e. operand u h.0 (one_place c e ts h.0 T h.1).0 h.2
  typed_expression (app (atom (integer z)) u) T n h = tt
  typed_expression (app (atom (text s)) u) T n h = tt
  typed_expression (app (atom (eigen k)) u) T n h = tt
  typed_expression (app (atom (logic x l)) u) T n h = tt
  typed_expression (app (atom (param k U)) u) T n h = tt
  typed_expression (app (app (index i) v) u) T n h = tt
  typed_expression (app (app (abs b) v) u) T n h = tt
  typed_expression (app (app (app t w) v) u) T n h = tt
  typed_expression (app (app (atom (constant c ts)) v) u) T n h = λ e. let w = two_places c e ts h.1.0 h.0 T h.1.1 in (operand v h.1.0 w.0 h.1.2, operand u h.0 w.1 h.2)
  typed_expression (app (app (atom (integer z)) v) u) T n h = tt
  typed_expression (app (app (atom (text s)) v) u) T n h = tt
  typed_expression (app (app (atom (eigen k)) v) u) T n h = tt
  typed_expression (app (app (atom (logic x l)) v) u) T n h = tt
  typed_expression (app (app (atom (param k U)) v) u) T n h = tt

  -- the beta-normal form of an expression that has a type
  pub typed_form : (n : ℕ) (t s : Term) (T : Ty) → beta_normal n t ≡ Some s → Typed K C t T → IsNoFunction s
  typed_form n t s T e h = typed_expression s T (normal_of n t s e).1.1 (typed_reduces (atom_type K) C (beta_reduces n t s e) T h)
