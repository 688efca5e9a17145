-- Arithmetic goals: types of values, `is` as an equality, comparisons.
use Rattle.lp_proof_laws.proofs.Uniform.Settings.{IsSetting}
use Rattle.std.proofs.Common.{◌≡◌, ℕ, suc, ◌≤◌, List, [], ◌∷◌, ◌++◌, map, length, Some, None, refl, sym, ap, ◌∙◌, subst as transport, arith, Bool, true, false, nat_eq, nat_le, if◌then◌else◌, inl, inr}
use Rattle.std.proofs.lemmas.Bool.Decides.{nat_tests}
use Rattle.std.specs.Prelude.{◌⊎◌, ◌&&◌, ◌||◌, ◌<◌, ℤ, pos, ◌+ℤ◌, ◌-ℤ◌, ◌*ℤ◌, int_div, int_rem, neg_ℤ, int_le, int_lt}
use Rattle.lp_calculus.specs.Types.{Ty, instance, arrow, var}
use Rattle.lp_calculus.specs.Term.{Term, constant}
use Rattle.lp_calculus.specs.Convert.{Converts, same}
use Rattle.lp_calculus.specs.Typing.{Context, Typed, atom_type, type_at, scheme_type, o_type, int_type, string_type}
use Rattle.lp_calculus.specs.Closed.{IsClosedAt}
use Rattle.lp_calculus.proofs.Subject.{typed_reduces}
use Rattle.lp_model.specs.declared.ending.Fault.TheVariants.{Overflow, ZeroDivisor}
use Rattle.lp_model.specs.Pair.{Closing, closed}
use Rattle.lp_standard.specs.Connectives.{two}
use Rattle.lp_standard.specs.Schemes.{IsStandard, plain, over_one, on_two, entry, standard_schemes}
use Rattle.lp_model.specs.Flatten.{ClauseFormula}
use Rattle.lp_model.specs.Values.{Value, Number, Bytes, Outcome, Is, Faults, bound, number, divided, remainder, is_zero, binary, unary, is_binary, is_two_place, is_one_place, evaluate, HasValue, term_of, ordered}
use Rattle.lp_model.specs.Proofs.{by_failure, Declared, under, IsFormula, IsArith, RootedBy, trivially, both_sides, left_side, right_side, at_witness, for_all, under_assumption, equally, by_arithmetic, by_clause, Arith, Leaves, ProvableBy}
use Rattle.lp_proof_laws.proofs.Uniform.Roots.{rooted_by}
use Rattle.lp_search_laws.specs.Holds.{Holds, IsSameGoal}
use Rattle.lp_search_laws.proofs.Connectives.{equal_holds}
use Rattle.lp_search_laws.proofs.Expressions.{Expression, of_number, of_text, of_two, of_one, expression, evaluated, value_closed, one_value}

-- the numbers of the operations

pub is_number : (a b : ℕ) → nat_eq a b ≡ true → a ≡ b
is_number a b e = grind (e, arith, nat_tests)

pub either_true : (a b : Bool) → (a || b) ≡ true → (a ≡ true) ⊎ (b ≡ true)
either_true true b e = inl refl
either_true false b e = inr e

pub both_true : (a b : Bool) → (a && b) ≡ true → (a ≡ true) × (b ≡ true)
both_true true b e = (refl, e)
both_true false b e = absurd (cc)

pub not_above : (a b : ℕ) → nat_le a b ≡ true → a ≤ b
not_above a b e = grind (e, arith, nat_tests)

other_number : (a c : ℕ) → a ≤ c → nat_eq c a ≡ false → suc a ≤ c
other_number a c l e = grind (l, e, arith, nat_tests)

-- a number is the least one within its bounds, or a later one
first_or_later : (a c : ℕ) → a ≤ c → (c ≡ a) ⊎ (suc a ≤ c)
first_or_later a c l = go (nat_eq c a) refl
  where
    go : (t : Bool) → nat_eq c a ≡ t → (c ≡ a) ⊎ (suc a ≤ c)
    go true e = inl (is_number c a e)
    go false e = inr (other_number a c l e)

among_five : (P : ℕ → Type 0) (c : ℕ) → 16 ≤ c → c ≤ 20 → P 16 → P 17 → P 18 → P 19 → P 20 → P c
among_five P c l h a b d e f = go (first_or_later 16 c l)
  where
    go5 : (c ≡ 19) ⊎ (20 ≤ c) → P c
    go5 (inl q) = transport P (sym q) e
    go5 (inr m) = let q : 20 ≡ c = omega (m, h, arith) in transport P q f

    go4 : (c ≡ 18) ⊎ (19 ≤ c) → P c
    go4 (inl q) = transport P (sym q) d
    go4 (inr m) = go5 (first_or_later 19 c m)

    go3 : (c ≡ 17) ⊎ (18 ≤ c) → P c
    go3 (inl q) = transport P (sym q) b
    go3 (inr m) = go4 (first_or_later 18 c m)

    go : (c ≡ 16) ⊎ (17 ≤ c) → P c
    go (inl q) = transport P (sym q) a
    go (inr m) = go3 (first_or_later 17 c m)

among_four : (P : ℕ → Type 0) (c : ℕ) → 10 ≤ c → c ≤ 13 → P 10 → P 11 → P 12 → P 13 → P c
among_four P c l h a b d e = go (first_or_later 10 c l)
  where
    go4 : (c ≡ 12) ⊎ (13 ≤ c) → P c
    go4 (inl q) = transport P (sym q) d
    go4 (inr m) = let q : 13 ≡ c = omega (m, h, arith) in transport P q e

    go3 : (c ≡ 11) ⊎ (12 ≤ c) → P c
    go3 (inl q) = transport P (sym q) b
    go3 (inr m) = go4 (first_or_later 12 c m)

    go : (c ≡ 10) ⊎ (11 ≤ c) → P c
    go (inl q) = transport P (sym q) a
    go (inr m) = go3 (first_or_later 11 c m)

-- kinds of values

abbrev kind : Value → Ty
kind (Number z) = int_type
kind (Bytes s) = string_type

number_gives : (z : ℤ) (v : Value) → number z ≡ Is v → kind v ≡ int_type
number_gives z v e = go (int_le (neg_ℤ (pos bound)) z && int_lt z (pos bound)) e
  where
    go : (t : Bool) → (if t then Is (Number z) else Faults Overflow) ≡ Is v → kind v ≡ int_type
    go true f = let q : Number z ≡ v = cc in ap kind (sym q)
    go false f = absurd (cc)

divided_gives : (a b : ℤ) (v : Value) → divided a b ≡ Is v → kind v ≡ int_type
divided_gives a b v e = go (is_zero b) e
  where
    go : (t : Bool) → (if t then Faults ZeroDivisor else number (int_div a b)) ≡ Is v → kind v ≡ int_type
    go true f = absurd (cc)
    go false f = number_gives (int_div a b) v f

remainder_gives : (a b : ℤ) (v : Value) → remainder a b ≡ Is v → kind v ≡ int_type
remainder_gives a b v e = go (is_zero b) e
  where
    behind : (o : Outcome) → (elim o as (λ x. Outcome) [ Is w ↦ number (int_rem a b) | Faults f ↦ Faults f ]) ≡ Is v → kind v ≡ int_type
    behind (Is w) f = number_gives (int_rem a b) v f
    behind (Faults w) f = absurd (cc)

    go : (t : Bool) → (if t then Faults ZeroDivisor else (elim (number (int_div a b)) as (λ x. Outcome) [ Is w ↦ number (int_rem a b) | Faults f ↦ Faults f ])) ≡ Is v → kind v ≡ int_type
    go true f = absurd (cc)
    go false f = behind (number (int_div a b)) f

-- declared types
pub plain_type : (ts : List Ty) (S X : Ty) → scheme_type ts (plain S) ≡ Some X → (ts ≡ []) × (X ≡ instance (type_at ts) S)
plain_type [] S X e = let q : instance (type_at []) S ≡ X = cc in (refl, sym q)
plain_type (t ∷ ts) S X e =
    let q : nat_eq (suc (length ts)) 0 ≡ false = grind (arith, nat_tests) in
    let y : (if false then Some (instance (type_at (t ∷ ts)) S) else None) ≡ Some X = sym (ap (λ b. if b then Some (instance (type_at (t ∷ ts)) S) else None) q) ∙ e in
    absurd (cc)

pub over_type : (ts : List Ty) (X : Ty) → scheme_type ts (over_one (on_two (var 0) o_type)) ≡ Some X → (U : Ty) × (ts ≡ U ∷ []) × (X ≡ on_two U o_type)
over_type [] X e = absurd (cc)
over_type (U ∷ []) X e = let q : on_two U o_type ≡ X = cc in (U, refl, sym q)
over_type (U ∷ W ∷ ts) X e =
    let S : Ty = instance (type_at (U ∷ W ∷ ts)) (on_two (var 0) o_type) in
    let q : nat_eq (suc (suc (length ts))) 1 ≡ false = grind (arith, nat_tests) in
    let y : (if false then Some S else None) ≡ Some X = sym (ap (λ b. if b then Some S else None) q) ∙ e in
    absurd (cc)

two_last : (A B C S U V : Ty) → arrow A (arrow B C) ≡ arrow S (arrow U V) → C ≡ V
two_last A B C S U V e = cc

one_last : (A B S U : Ty) → arrow A B ≡ arrow S U → B ≡ U
one_last A B S U e = cc

-- a value has the type of its expression
module _ (K : Context) (std : IsStandard K.declared) (C : List Ty) where
  -- the type at the end of a declared one
  gives_last : (c : ℕ) (S : Ty) → c ≤ 31 → entry standard_schemes c ≡ plain (on_two S S) → (ts : List Ty) (A B T : Ty) → scheme_type ts (K.declared c) ≡ Some (arrow A (arrow B T)) → T ≡ instance (type_at []) S
  gives_last c S l e ts A B T f =
      let d : c < 32 = omega (l, arith) in
      let q = plain_type ts (on_two S S) (arrow A (arrow B T)) (sym (ap (scheme_type ts) (std.at c d ∙ e)) ∙ f) in
      two_last A B T _ _ _ (q.1 ∙ ap (λ us. instance (type_at us) (on_two S S)) q.0)

  gives_only : (c : ℕ) (R S : Ty) → c ≤ 31 → entry standard_schemes c ≡ plain (arrow R S) → (ts : List Ty) (A T : Ty) → scheme_type ts (K.declared c) ≡ Some (arrow A T) → T ≡ instance (type_at []) S
  gives_only c R S l e ts A T f =
      let d : c < 32 = omega (l, arith) in
      let q = plain_type ts (arrow R S) (arrow A T) (sym (ap (scheme_type ts) (std.at c d ∙ e)) ∙ f) in
      one_last A T _ _ (q.1 ∙ ap (λ us. instance (type_at us) (arrow R S)) q.0)

  abbrev IsOperation : ℕ → Type 0
  IsOperation c = (ts : List Ty) (A B T : Ty) (x y v : Value) → scheme_type ts (K.declared c) ≡ Some (arrow A (arrow B T)) → binary c x y ≡ Is v → T ≡ kind v

  on_sum : IsOperation 16
  on_sum ts A B T (Number a) (Number b) v f e = gives_last 16 int_type (omega arith) refl ts A B T f ∙ sym (number_gives (a +ℤ b) v e)
  on_sum ts A B T (Number a) (Bytes b) v f e = absurd (cc)
  on_sum ts A B T (Bytes a) (Number b) v f e = absurd (cc)
  on_sum ts A B T (Bytes a) (Bytes b) v f e = absurd (cc)

  on_difference : IsOperation 17
  on_difference ts A B T (Number a) (Number b) v f e = gives_last 17 int_type (omega arith) refl ts A B T f ∙ sym (number_gives (a -ℤ b) v e)
  on_difference ts A B T (Number a) (Bytes b) v f e = absurd (cc)
  on_difference ts A B T (Bytes a) (Number b) v f e = absurd (cc)
  on_difference ts A B T (Bytes a) (Bytes b) v f e = absurd (cc)

  on_product : IsOperation 18
  on_product ts A B T (Number a) (Number b) v f e = gives_last 18 int_type (omega arith) refl ts A B T f ∙ sym (number_gives (a *ℤ b) v e)
  on_product ts A B T (Number a) (Bytes b) v f e = absurd (cc)
  on_product ts A B T (Bytes a) (Number b) v f e = absurd (cc)
  on_product ts A B T (Bytes a) (Bytes b) v f e = absurd (cc)

  on_quotient : IsOperation 19
  on_quotient ts A B T (Number a) (Number b) v f e = gives_last 19 int_type (omega arith) refl ts A B T f ∙ sym (divided_gives a b v e)
  on_quotient ts A B T (Number a) (Bytes b) v f e = absurd (cc)
  on_quotient ts A B T (Bytes a) (Number b) v f e = absurd (cc)
  on_quotient ts A B T (Bytes a) (Bytes b) v f e = absurd (cc)

  on_remainder : IsOperation 20
  on_remainder ts A B T (Number a) (Number b) v f e = gives_last 20 int_type (omega arith) refl ts A B T f ∙ sym (remainder_gives a b v e)
  on_remainder ts A B T (Number a) (Bytes b) v f e = absurd (cc)
  on_remainder ts A B T (Bytes a) (Number b) v f e = absurd (cc)
  on_remainder ts A B T (Bytes a) (Bytes b) v f e = absurd (cc)

  on_strings : IsOperation 22
  on_strings ts A B T (Number a) (Number b) v f e = absurd (cc)
  on_strings ts A B T (Number a) (Bytes b) v f e = absurd (cc)
  on_strings ts A B T (Bytes a) (Number b) v f e = absurd (cc)
  on_strings ts A B T (Bytes a) (Bytes b) v f e = let q : Bytes (a ++ b) ≡ v = cc in gives_last 22 string_type (omega arith) refl ts A B T f ∙ ap kind q

  operation : (c : ℕ) → is_two_place c ≡ true → IsOperation c
  operation c t = go (either_true (is_binary c) (nat_eq c 22) t)
    where
      go : (is_binary c ≡ true) ⊎ (nat_eq c 22 ≡ true) → IsOperation c
      go (inl h) = let b = both_true (nat_le 16 c) (nat_le c 20) h in among_five IsOperation c (not_above 16 c b.0) (not_above c 20 b.1) on_sum on_difference on_product on_quotient on_remainder
      go (inr h) = transport IsOperation (sym (is_number c 22 h)) on_strings

  abbrev IsSign : ℕ → Type 0
  IsSign c = (ts : List Ty) (A T : Ty) (x v : Value) → scheme_type ts (K.declared c) ≡ Some (arrow A T) → unary c x ≡ Is v → T ≡ kind v

  on_minus : IsSign 21
  on_minus ts A T (Number a) v f e = gives_only 21 int_type int_type (omega arith) refl ts A T f ∙ sym (number_gives (neg_ℤ a) v e)
  on_minus ts A T (Bytes s) v f e = absurd (cc)

  on_size : IsSign 23
  on_size ts A T (Number a) v f e = absurd (cc)
  on_size ts A T (Bytes s) v f e = gives_only 23 string_type int_type (omega arith) refl ts A T f ∙ sym (number_gives (pos (length s)) v e)

  sign : (c : ℕ) → is_one_place c ≡ true → IsSign c
  sign c t = go (either_true (nat_eq c 21) (nat_eq c 23) t)
    where
      go : (nat_eq c 21 ≡ true) ⊎ (nat_eq c 23 ≡ true) → IsSign c
      go (inl h) = transport IsSign (sym (is_number c 21 h)) on_minus
      go (inr h) = transport IsSign (sym (is_number c 23 h)) on_size

  expression_type : {t : Term} {v : Value} → Expression t v → (T : Ty) → Typed K C t T → T ≡ kind v
  expression_type (of_number z) T h = let q : int_type ≡ T = cc in sym q
  expression_type (of_text s) T h = let q : string_type ≡ T = cc in sym q
  expression_type (of_two c ts {x = x} {y = y} {v = v} t p q e) T h = operation c t ts h.1.0 h.0 T x y v h.1.1 e
  expression_type (of_one c ts {x = x} {v = v} t p e) T h = sign c t ts h.0 T x v h.1 e

  pub value_type : (t : Term) (v : Value) (T : Ty) → HasValue t v → Typed K C t T → T ≡ kind v
  value_type t v T h k = expression_type (expression h.form v h.is) T (typed_reduces (atom_type K) C h.is_form.0 T k)

term_typed : (K : Context) (C : List Ty) (v : Value) → Typed K C (term_of v) (kind v)
term_typed K C (Number z) = refl
term_typed K C (Bytes s) = refl

pub value_typed : (K : Context) (C : List Ty) (t : Term) (v : Value) (T : Ty) → IsStandard K.declared → HasValue t v → Typed K C t T → Typed K C (term_of v) T
value_typed K C t v T std h k = transport (Typed K C (term_of v)) (sym (value_type K std C t v T h k)) (term_typed K C v)

pub values_have_types : (n : ℕ) (K : Context) (C : List Ty) (t : Term) (T : Ty) (v : Value) → IsStandard K.declared → evaluate n t ≡ Some (Is v) → Typed K C t T → Typed K C (term_of v) T
values_have_types n K C t T v std e k = value_typed K C t v T std (evaluated n t v e) k

-- goals

value_stays : (c : Closing) (v : Value) → closed c (term_of v) ≡ term_of v
value_stays c (Number z) = refl
value_stays c (Bytes s) = refl

value_shut : (n : ℕ) (v : Value) → IsClosedAt n (term_of v)
value_shut n (Number z) = tt
value_shut n (Bytes s) = tt

one_of_map : (f : Ty → Ty) (ts : List Ty) (U : Ty) → map f ts ≡ U ∷ [] → (T : Ty) × (ts ≡ T ∷ []) × (f T ≡ U)
one_of_map f [] U e = absurd (cc)
one_of_map f (T ∷ []) U e = let q : f T ≡ U = cc in (T, refl, q)
one_of_map f (T ∷ W ∷ ts) U e = absurd (cc)

pub arrows_same : (A B U : Ty) → arrow A (arrow B o_type) ≡ on_two U o_type → (A ≡ U) × (B ≡ U)
arrows_same A B U e = let p : A ≡ U = cc in let q : B ≡ U = cc in (p, q)

module _ {L : Leaves} (d : Declared) (std : IsSetting L d) (E : List Ty) (P : List ClauseFormula) where
  -- what `is` says
  is_parts : (us : List Ty) (a b : Term) → IsFormula d E (two 9 us a b) → (U : Ty) × (us ≡ U ∷ []) × Typed (under d E) [] a U × Typed (under d E) [] b U
  is_parts us a b f =
      let h = f.typed in
      let q = over_type us (arrow h.1.0 (arrow h.0 o_type)) (sym (ap (scheme_type us) (std.standard.at 9 (omega arith))) ∙ h.1.1) in
      let w = arrows_same h.1.0 h.0 q.0 q.2 in
      (q.0, q.1, transport (Typed (under d E) [] a) w.0 h.1.2, transport (Typed (under d E) [] b) w.1 h.2)

  equal_fine : (U : Ty) (a b : Term) (v : Value) → IsFormula d E (two 9 (U ∷ []) a b) → Typed (under d E) [] a U → Typed (under d E) [] b U → HasValue b v → IsFormula d E (two 8 (U ∷ []) a (term_of v))
  equal_fine U a b v f ta tb h = record {
    typed = (U, (U, ap (scheme_type (U ∷ [])) (std.standard.at 8 (omega arith)), ta), value_typed (under d E) [] b v U std.standard h tb);
    closed = ((f.closed.0.0, f.closed.0.1), value_shut (length E) v);
  }

  is_arith : (U : Ty) (a b : Term) (v : Value) → HasValue b v → IsArith (two 9 (U ∷ []) a b) → Converts a (term_of v)
  is_arith U a b v h (inl z) =
      let p : z.1 ≡ a = (let e = z.4 in cc) in
      let q : z.2 ≡ b = (let e = z.4 in cc) in
      let w : z.3 ≡ v = one_value b b v z.3 (same b) h (transport (λ x. HasValue x z.3) q z.5) in
      transport (λ x. Converts a (term_of x)) w (transport (λ x. Converts x (term_of z.3)) p z.6)
  is_arith U a b v h (inr z) = let e = z.7 in absurd (cc)

  is_root : (U : Ty) (a b : Term) (v : Value) → IsFormula d E (two 9 (U ∷ []) a b) → HasValue b v → ProvableBy L d E P (two 9 (U ∷ []) a b) → Converts a (term_of v)
  is_root U a b v f h p = go (rooted_by L d std.standard E P (constant 9 (U ∷ [])) (a ∷ b ∷ []) f (std.converting P) p)
    where
      go : RootedBy L d E P (two 9 (U ∷ []) a b) → Converts a (term_of v)
      go (trivially (inl e)) = cc
      go (trivially (inr e)) = cc
      go (both_sides X Y e p' q') = cc
      go (left_side X Y e p') = cc
      go (right_side X Y e p') = cc
      go (at_witness W r t e w p') = cc
      go (for_all W r e p') = cc
      go (under_assumption X Y (inl e) p') = cc
      go (under_assumption X Y (inr e) p') = cc
      go (equally W x y e w) = cc
      go (by_arithmetic z) = is_arith U a b v h z
      go (by_failure K e f m) = cc
      go (by_clause i D' ts e l k m r) = let n : 32 ≤ 9 = m in absurd (omega arith)

  -- with the types known
  pub assigned_at : (c : Closing) (T : Ty) (l r : Term) (v : Value) → HasValue r v → IsFormula d E (closed c (two 9 (T ∷ []) l r)) → IsSameGoal L d E P c (two 9 (T ∷ []) l r) (two 8 (T ∷ []) l (term_of v))
  assigned_at c T l r v h f =
      let hc = value_closed c r v h in
      let U = instance c.types T in
      let x = is_parts (U ∷ []) (closed c l) (closed c r) f in
      let e : x.0 ≡ U = (let q = x.1 in cc) in
      let fine = equal_fine U (closed c l) (closed c r) v f (transport (Typed (under d E) [] (closed c l)) e x.2) (transport (Typed (under d E) [] (closed c r)) e x.3) hc in
      let fine' : IsFormula d E (closed c (two 8 (T ∷ []) l (term_of v))) = transport (λ z. IsFormula d E (two 8 (U ∷ []) (closed c l) z)) (sym (value_stays c v)) fine in
      let eq = equal_holds d std E P c T l (term_of v) fine' in
      record {
        fine = fine';
        to = λ p. eq.1 (transport (Converts (closed c l)) (sym (value_stays c v)) (is_root U (closed c l) (closed c r) v f hc p));
        from = λ p. record { proof = Arith; holds = inl (U, closed c l, closed c r, v, refl, hc, transport (Converts (closed c l)) (value_stays c v) (eq.0 p)) };
      }

  pub assignments : (c : Closing) (ts : List Ty) (n : ℕ) (l r : Term) (v : Value) → evaluate n r ≡ Some (Is v) → IsFormula d E (closed c (two 9 ts l r)) → (T : Ty) × (ts ≡ T ∷ []) × IsSameGoal L d E P c (two 9 ts l r) (two 8 (T ∷ []) l (term_of v))
  assignments c ts n l r v e f =
      let x = is_parts (map (instance c.types) ts) (closed c l) (closed c r) f in
      let m = one_of_map (instance c.types) ts x.0 x.1 in
      (m.0, m.1, transport (λ us. IsSameGoal L d E P c (two 9 us l r) (two 8 (m.0 ∷ []) l (term_of v))) (sym m.1) (assigned_at c m.0 l r v (evaluated n r v e) (transport (λ us. IsFormula d E (closed c (two 9 us l r))) m.1 f)))

  -- orders
  order_plain : (k : ℕ) → 10 ≤ k → k ≤ 13 → d k ≡ plain (on_two int_type o_type)
  order_plain k l h = among_four (λ c. d c ≡ plain (on_two int_type o_type)) k l h (std.standard.at 10 (omega arith)) (std.standard.at 11 (omega arith)) (std.standard.at 12 (omega arith)) (std.standard.at 13 (omega arith))

  order_none : (k : ℕ) → 10 ≤ k → k ≤ 13 → (us : List Ty) (a b : Term) → IsFormula d E (two k us a b) → us ≡ []
  order_none k l h us a b f = (plain_type us (on_two int_type o_type) (arrow f.typed.1.0 (arrow f.typed.0 o_type)) (sym (ap (scheme_type us) (order_plain k l h)) ∙ f.typed.1.1)).0

  order_arith : (k : ℕ) → 10 ≤ k → (a b : Term) (x y : ℤ) → HasValue a (Number x) → HasValue b (Number y) → IsArith (two k [] a b) → ordered k x y ≡ true
  order_arith k m a b x y ha hb (inl z) = let e = z.4 in absurd (cc)
  order_arith k m a b x y ha hb (inr z) =
      let o : z.0 ≡ k = (let e = z.7 in cc) in
      let p : z.1 ≡ a = (let e = z.7 in cc) in
      let q : z.2 ≡ b = (let e = z.7 in cc) in
      let v : Number z.3 ≡ Number x = one_value a a (Number x) (Number z.3) (same a) ha (transport (λ t. HasValue t (Number z.3)) p z.8) in
      let w : Number z.4 ≡ Number y = one_value b b (Number y) (Number z.4) (same b) hb (transport (λ t. HasValue t (Number z.4)) q z.9) in
      let v' : z.3 ≡ x = cc in
      let w' : z.4 ≡ y = cc in
      transport (λ t. ordered k x t ≡ true) w' (transport (λ t. ordered k t z.4 ≡ true) v' (transport (λ t. ordered t z.3 z.4 ≡ true) o z.10))

  order_root : (k : ℕ) → 10 ≤ k → k ≤ 13 → (a b : Term) (x y : ℤ) → IsFormula d E (two k [] a b) → HasValue a (Number x) → HasValue b (Number y) → ProvableBy L d E P (two k [] a b) → ordered k x y ≡ true
  order_root k m h a b x y f ha hb p = go (rooted_by L d std.standard E P (constant k []) (a ∷ b ∷ []) f (std.converting P) p)
    where
      go : RootedBy L d E P (two k [] a b) → ordered k x y ≡ true
      go (trivially (inl e)) = absurd (cc)
      go (trivially (inr e)) = absurd (cc)
      go (both_sides X Y e p' q') = let q : k ≡ 0 = cc in absurd (omega (q, m, arith))
      go (left_side X Y e p') = let q : k ≡ 1 = cc in absurd (omega (q, m, arith))
      go (right_side X Y e p') = let q : k ≡ 1 = cc in absurd (omega (q, m, arith))
      go (at_witness W r t e w p') = absurd (cc)
      go (for_all W r e p') = absurd (cc)
      go (under_assumption X Y (inl e) p') = let q : k ≡ 2 = cc in absurd (omega (q, m, arith))
      go (under_assumption X Y (inr e) p') = let q : k ≡ 3 = cc in absurd (omega (q, m, arith))
      go (equally W s t e w) = absurd (cc)
      go (by_arithmetic z) = order_arith k m a b x y ha hb z
      go (by_failure K e f m) = cc
      go (by_clause i D' ts e l n s r) = let q : 32 ≤ k = s in absurd (omega (q, h, arith))

  pub comparisons : (c : Closing) (ts : List Ty) (k n : ℕ) (l r : Term) (x y : ℤ) → 10 ≤ k → k ≤ 13 → evaluate n l ≡ Some (Is (Number x)) → evaluate n
      r ≡ Some (Is (Number y)) → IsFormula d E (closed c (two k ts l r)) → (Holds L d E P c (two k ts l r) → ordered k x y ≡ true) ×
      (ordered k x y ≡ true → Holds L d E P c (two k ts l r))
  comparisons c ts k n l r x y m h el er f =
      let hl = value_closed c l (Number x) (evaluated n l (Number x) el) in
      let hr = value_closed c r (Number y) (evaluated n r (Number y) er) in
      let e = order_none k m h (map (instance c.types) ts) (closed c l) (closed c r) f in (
        (λ p. order_root k m h (closed c l) (closed c r) x y (transport (λ us. IsFormula d E (two k us (closed c l) (closed c r))) e f) hl hr (transport (λ us. ProvableBy L d E P (two k us (closed c l) (closed c r))) e p)),
        (λ o. transport (λ us. ProvableBy L d E P (two k us (closed c l) (closed c r))) (sym e) (record { proof = Arith; holds = inr (k, closed c l, closed c r, x, y, m, h, refl, hl, hr, o) })),
      )
