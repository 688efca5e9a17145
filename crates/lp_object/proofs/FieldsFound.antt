-- What is read as a field or as code is spelled so.
use Rattle.std.proofs.Common.{◌≡◌, ℕ, zero, suc, ◌+◌, ◌^◌, ◌<◌, ◌≤◌, ◌%◌, Bool, true, false, cond, ltb, eqb, List, [], ◌∷◌, ◌++◌, length, Option, Some, None, Result, Ok, Err, refl, sym, ap, subst, ◌∙◌, append_assoc, arith, inl, inr}
use Rattle.std.specs.Prelude.{slice_index_or}
use Rattle.std.specs.List.{flat_map, AllByRecursion}
use Rattle.std.proofs.lemmas.Bool.{eqb-true, ltb-false}
use Rattle.std.proofs.lemmas.List.{append-nil, length-append}
use Rattle.lp_bytes.specs.declared.fault.Fault.{Fault}
use Rattle.lp_bytes.specs.declared.fault.Fault.TheVariants.{BadField}
use Rattle.lp_bytes.specs.Numbers.{spelled_one, spelled_two, spelled_four, spelled_integer}
use Rattle.lp_bytes.specs.Spellable.{IsInteger}
use Rattle.lp_bytes.specs.Reading.{Left, Read, ◌>>=◌, field, byte_at, two_at, four_at, integer_at, each_at}
use Rattle.lp_bytes.proofs.Taking.{IsBytes, bind_ok, ok_is, guard_ok, held, chosen, Takes, takes_none, takes_then, takes_as, field_takes, byte_takes, two_takes, four_takes, integer_takes, each_take}
use Rattle.lp_object.specs.declared.width.Width.{Width}
use Rattle.lp_object.specs.declared.width.Width.TheVariants.{Two, Four}
use Rattle.lp_object.specs.Numbers.{spelled_number, spelled_text, spelled_few, spelled_many, spelled_numbered}
use Rattle.lp_object.specs.Plain.{Operand, argument, register, symbol, integer, bytes, text, few, many, numbered, PlainInstr, of_number}
use Rattle.lp_object.specs.Spelling.{spelled_operand, spelled_instr, spelled_code}
use Rattle.lp_object.specs.Spellable.{IsNumber, AreRegisters, AreNumbered, FitsForm, FitForms, IsInstr, IsCode, IsName, Each}
use Rattle.lp_object.specs.Reading.{as_read, number_at, text_at, name_length_at, name_at, choice_at, few_at, many_at, numbered_at, one_or_more_at, count_at, Form, an_argument, a_register, a_symbol, an_integer, some_bytes, a_text, a_few, one_or_more, a_many, a_numbered, layouts, operand_at, operands_at, laid_out_at, instr_at, told_at, located_at, instrs_at, code_at}

-- a value that was read in steps: what the first one read, and what was read behind it
pub behind_that : {A B : Type 0} (C : Type 0) (r : Result A Fault) (f : A → Result B Fault) (y : B) → (r >>= f) ≡ Ok y → ((x : A) → r ≡ Ok x → f x ≡ Ok y → C) → C
behind_that C r f y e k = let a = bind_ok r f y e in k a.0 a.1 a.2

pub low_byte : (n : ℕ) → n < 256 → spelled_one n ≡ n ∷ []
low_byte n lt = let e : n % 256 ≡ n = omega (arith, lt) in ap (λ m. m ∷ []) e

pub number_takes : (w : Width) (s : Left) (n : ℕ) (t : Left) → IsBytes s.rest → number_at w s ≡ Ok (n, t) → Takes s (spelled_number w n) t × IsNumber w n
unfolding number_at
number_takes Two s n t h e = two_takes s n t h e
number_takes Four s n t h e = four_takes s n t h e

pub count_takes : (w : Width) (most : ℕ) (s : Left) (n : ℕ) (t : Left) → IsBytes s.rest → count_at w most s ≡ Ok (n, t) → Takes s (spelled_number w n) t × IsNumber w n × (n ≤ most)
unfolding count_at
count_takes w most s n t h e =
    let a = bind_ok (number_at w s) (λ n. cond (ltb most n.0) (Err (BadField s.at)) (Ok n)) (n, t) e in
    let g = guard_ok (ltb most a.0.0) (BadField s.at) (Ok a.0) (n, t) a.2 in
    let p = number_takes w s n t h (a.1 ∙ g.1) in
    (p.0, p.1, subst (λ (z : ℕ × Left). z.0 ≤ most) (ok_is a.0 (n, t) g.1) (ltb-false _ _ g.0))

-- ---- texts and lists

pub sized : (s : Left) (n : ℕ) (t : Left) (x : List ℕ) (u : Left) → Takes s (spelled_two n) t → Takes t x u × (length x ≡ n) × IsBytes x → Takes s (spelled_text x) u
unfolding spelled_text
sized s n t x u p q = takes_then s (spelled_two (length x)) t x u (takes_as s (spelled_two n) (spelled_two (length x)) t (ap (λ m. spelled_two m) (sym q.1)) p) q.0

pub text_takes : (s : Left) (x : List ℕ) (t : Left) → IsBytes s.rest → text_at s ≡ Ok (x, t) → Takes s (spelled_text x) t × (length x < 2 ^ 16)
unfolding text_at
text_takes s x t h e =
    let a = bind_ok (two_at s) (λ n. field n.0 n.1) (x, t) e in
    let p = two_takes s a.0.0 a.0.1 h a.1 in
    let q = field_takes a.0.0 a.0.1 x t p.0.bytes a.2 in
    (sized s a.0.0 a.0.1 x t p.0 q, omega (arith, q.1, p.1))

not_zero : (n : ℕ) → eqb n 0 ≡ false → 0 < n
not_zero zero e = absurd cc
not_zero (suc n) e = omega arith

-- the length of a name
abbrev pub IsShort : ℕ → Type 0
IsShort n = (0 < n) × (n < 256)

pub name_length_takes : (s : Left) (n : ℕ) (t : Left) → IsBytes s.rest → name_length_at s ≡ Ok (n, t) → Takes s (spelled_two n) t × IsShort n
unfolding name_length_at
name_length_takes s n t h e =
    let a = bind_ok (two_at s) (λ n. cond (eqb n.0 0) (Err (BadField s.at)) (cond (ltb 255 n.0) (Err (BadField s.at)) (Ok n))) (n, t) e in
    let g = guard_ok (eqb a.0.0 0) (BadField s.at) (cond (ltb 255 a.0.0) (Err (BadField s.at)) (Ok a.0)) (n, t) a.2 in
    let k = guard_ok (ltb 255 a.0.0) (BadField s.at) (Ok a.0) (n, t) g.1 in
    let few : a.0.0 ≤ 255 = ltb-false _ _ k.0 in
    ((two_takes s n t h (a.1 ∙ k.1)).0, subst (λ (z : ℕ × Left). IsShort z.0) (ok_is a.0 (n, t) k.1) (not_zero a.0.0 g.0, omega (arith, few)))

-- a text behind such a length is a name
pub is_name : (x : List ℕ) (n : ℕ) → length x ≡ n → IsShort n → IsName x
is_name x n e h = (omega (arith, e, h.0), omega (arith, e, h.1))

pub name_takes : (s : Left) (x : List ℕ) (t : Left) → IsBytes s.rest → name_at s ≡ Ok (x, t) → Takes s (spelled_text x) t × IsName x
unfolding name_at
name_takes s x t h e =
    let a = bind_ok (name_length_at s) (λ n. field n.0 n.1) (x, t) e in
    let p = name_length_takes s a.0.0 a.0.1 h a.1 in
    let q = field_takes a.0.0 a.0.1 x t p.0.bytes a.2 in
    (sized s a.0.0 a.0.1 x t p.0 q, is_name x a.0.0 q.1 p.1)

pub choice_takes : (m n : ℕ) (s : Left) (c : Bool) (t : Left) → IsBytes s.rest → choice_at m n s ≡ Ok (c, t) → Takes s (cond c m n ∷ []) t
unfolding choice_at
choice_takes m n s c t h e =
    let a = bind_ok (byte_at s) (λ b. cond (eqb b.0 m) (Ok (true, b.1)) (cond (eqb b.0 n) (Ok (false, b.1)) (Err (BadField s.at)))) (c, t) e in
    let p = (byte_takes s a.0.0 a.0.1 h a.1).0 in
    elim (chosen (eqb a.0.0 m) (Ok (true, a.0.1)) (cond (eqb a.0.0 n) (Ok (false, a.0.1)) (Err (BadField s.at))) (Ok (c, t)) a.2) [
      | inl y ↦ subst (λ (p : Bool × Left). Takes s (cond p.0 m n ∷ []) p.1) (ok_is (true, a.0.1) (c, t) y.1) (takes_as s (a.0.0 ∷ []) (m ∷ []) a.0.1 (ap (λ n. n ∷ []) (eqb-true _ _ y.0)) p)
      | inr y ↦
          let k = held (eqb a.0.0 n) (Ok (false, a.0.1)) (BadField s.at) (c, t) y.1 in
          subst (λ (p : Bool × Left). Takes s (cond p.0 m n ∷ []) p.1) (ok_is (false, a.0.1) (c, t) k.1) (takes_as s (a.0.0 ∷ []) (n ∷ []) a.0.1 (ap (λ n. n ∷ []) (eqb-true _ _ k.0)) p)
    ]

-- so many entries, each of which is spelled and fits
pub all_take : {A : Type 0} (f : Left → Read A) (spell : A → List ℕ) (P : A → Type 0) → ((s : Left) (x : A) (t : Left) → IsBytes s.rest → f s ≡ Ok (x, t) → Takes s (spell x) t × P x)
    → (n : ℕ) (s : Left) (xs : List A) (t : Left) → IsBytes s.rest → each_at (λ before. f) [] n s ≡ Ok (xs, t) → Takes s (flat_map spell xs) t × (length xs ≡ n) × AllByRecursion P xs
all_take f spell P k n s xs t h e =
    let r = each_take (λ before. f) spell P (λ before s x t. k s x t) [] n s xs t h e in
    subst (λ ys. Takes s (flat_map spell ys) t × (length ys ≡ n) × AllByRecursion P ys) (sym r.1) (r.2, r.3, r.4)

-- the same where an entry fits behind those before it
pub each_takes : {A : Type 0} (f : List A → Left → Read A) (spell : A → List ℕ) (P : List A → A → Type 0)
    → ((before : List A) (s : Left) (x : A) (t : Left) → IsBytes s.rest → f before s ≡ Ok (x, t) → Takes s (spell x) t × P before x)
    → (n : ℕ) (before : List A) (s : Left) (ys : List A) (t : Left) → IsBytes s.rest → each_at f before n s ≡ Ok (ys, t) → (xs : List A) × (ys ≡ before ++ xs) × Takes s (flat_map spell xs) t × (length xs ≡ n) × Each P before xs
unfolding each_at
each_takes {A = A} f spell P k zero before s ys t h e =
    subst (λ (p : List A × Left). (xs : List A) × (p.0 ≡ before ++ xs) × Takes s (flat_map spell xs) p.1 × (length xs ≡ 0) × Each P before xs) (ok_is (before, s) (ys, t) e)
    ([], sym (append-nil before), takes_none s h, refl, tt)
each_takes {A = A} f spell P k (suc n) before s ys t h e =
    let a = bind_ok (f before s) (λ x. each_at f (before ++ x.0 ∷ []) n x.1) (ys, t) e in
    let p = k before s a.0.0 a.0.1 h a.1 in
    let q = each_takes f spell P k n (before ++ a.0.0 ∷ []) a.0.1 ys t p.0.bytes a.2 in
    (a.0.0 ∷ q.0, q.1 ∙ append_assoc before (a.0.0 ∷ []) q.0, takes_then s (spell a.0.0) a.0.1 (flat_map spell q.0) t p.0 q.2, ap suc q.3, (p.1, q.4))

pub few_takes : (s : Left) (x : List ℕ) (t : Left) → IsBytes s.rest → few_at s ≡ Ok (x, t) → Takes s (spelled_few x) t × AreRegisters 256 x
unfolding few_at spelled_few
few_takes s x t h e =
    let a = bind_ok (byte_at s) (λ n. each_at (λ before. two_at) [] n.0 n.1) (x, t) e in
    let p = byte_takes s a.0.0 a.0.1 h a.1 in
    let q = all_take two_at spelled_two (λ r. r < 2 ^ 16) two_takes a.0.0 a.0.1 x t p.0.bytes a.2 in
    (takes_then s (spelled_one (length x)) a.0.1 (flat_map spelled_two x) t (takes_as s (a.0.0 ∷ []) (spelled_one (length x)) a.0.1 (sym (low_byte a.0.0 p.1) ∙ ap (λ m. spelled_one m) (sym q.1)) p.0) q.0, (omega (arith, q.1, p.1), q.2))

pub many_takes : (s : Left) (x : List ℕ) (t : Left) → IsBytes s.rest → many_at s ≡ Ok (x, t) → Takes s (spelled_many x) t × AreRegisters 65536 x
unfolding many_at spelled_many
many_takes s x t h e =
    let a = bind_ok (two_at s) (λ n. each_at (λ before. two_at) [] n.0 n.1) (x, t) e in
    let p = two_takes s a.0.0 a.0.1 h a.1 in
    let q = all_take two_at spelled_two (λ r. r < 2 ^ 16) two_takes a.0.0 a.0.1 x t p.0.bytes a.2 in
    (takes_then s (spelled_two (length x)) a.0.1 (flat_map spelled_two x) t (takes_as s (spelled_two a.0.0) (spelled_two (length x)) a.0.1 (ap (λ m. spelled_two m) (sym q.1)) p.0) q.0, (omega (arith, q.1, p.1), q.2))

pub numbered_takes : (s : Left) (x : List ℕ) (t : Left) → IsBytes s.rest → numbered_at s ≡ Ok (x, t) → Takes s (spelled_numbered x) t × AreNumbered 65536 x
unfolding numbered_at spelled_numbered
numbered_takes s x t h e =
    let a = bind_ok (two_at s) (λ n. each_at (λ before. four_at) [] n.0 n.1) (x, t) e in
    let p = two_takes s a.0.0 a.0.1 h a.1 in
    let q = all_take four_at spelled_four (λ r. r < 2 ^ 32) four_takes a.0.0 a.0.1 x t p.0.bytes a.2 in
    (takes_then s (spelled_two (length x)) a.0.1 (flat_map spelled_four x) t (takes_as s (spelled_two a.0.0) (spelled_two (length x)) a.0.1 (ap (λ m. spelled_two m) (sym q.1)) p.0) q.0, (omega (arith, q.1, p.1), q.2))

one_or_more_takes : (s : Left) (x : List ℕ) (t : Left) → IsBytes s.rest → one_or_more_at s ≡ Ok (x, t) → Takes s (spelled_few x) t × AreRegisters 256 x × (0 < length x)
unfolding one_or_more_at
one_or_more_takes s x t h e =
    let a = bind_ok (few_at s) (λ rs. cond (eqb (length rs.0) 0) (Err (BadField s.at)) (Ok rs)) (x, t) e in
    let g = guard_ok (eqb (length a.0.0) 0) (BadField s.at) (Ok a.0) (x, t) a.2 in
    let p = few_takes s x t h (a.1 ∙ g.1) in
    (p.0, p.1, subst (λ (z : List ℕ × Left). 0 < length z.0) (ok_is a.0 (x, t) g.1) (not_zero (length a.0.0) g.0))

-- ---- instructions

-- a value that is made of the one that is read
pub as_takes : {A B : Type 0} (g : A → B) (spell : A → List ℕ) (spelled : B → List ℕ) (P : A → Type 0) (Q : B → Type 0) → ((x : A) → spelled (g x) ≡ spell x) → ((x : A) → P x → Q (g x))
    → (s : Left) (r : Read A) → ((x : A) (u : Left) → r ≡ Ok (x, u) → Takes s (spell x) u × P x) → (y : B) (t : Left) → as_read g r ≡ Ok (y, t) → Takes s (spelled y) t × Q y
as_takes {B = B} g spell spelled P Q same kept s r k y t e =
    let a = bind_ok r (λ x. Ok (g x.0, x.1)) (y, t) e in
    let p = k a.0.0 a.0.1 a.1 in
    subst (λ (z : B × Left). Takes s (spelled z.0) z.1 × Q z.0) (ok_is (g a.0.0, a.0.1) (y, t) a.2) (takes_as s (spell a.0.0) (spelled (g a.0.0)) a.0.1 (sym (same a.0.0)) p.0, kept a.0.0 p.1)

operand_takes : (w : Width) (f : Form) (s : Left) (o : Operand) (t : Left) → IsBytes s.rest → operand_at w f s ≡ Ok (o, t) → Takes s (spelled_operand w o) t × FitsForm w f o
operand_takes w an_argument s o t h e = as_takes argument (λ b. b ∷ []) (spelled_operand w) (λ b. b < 256) (FitsForm w an_argument) (λ x. refl) (λ x k. (x, refl, k)) s (byte_at s) (λ x u i. byte_takes s x u h i) o t e
operand_takes w a_register s o t h e = as_takes register spelled_two (spelled_operand w) (λ r. r < 2 ^ 16) (FitsForm w a_register) (λ x. refl) (λ x k. (x, refl, k)) s (two_at s) (λ x u i. two_takes s x u h i) o t e
operand_takes w a_symbol s o t h e = as_takes symbol (spelled_number w) (spelled_operand w) (IsNumber w) (FitsForm w a_symbol) (λ x. refl) (λ x k. (x, refl, k)) s (number_at w s) (λ x u i. number_takes w s x u h i) o t e
operand_takes w an_integer s o t h e = as_takes integer spelled_integer (spelled_operand w) IsInteger (FitsForm w an_integer) (λ x. refl) (λ x k. (x, refl, k)) s (integer_at s) (λ x u i. let p = integer_takes s x u h i in (p.0, (p.1, p.2))) o t e
operand_takes w some_bytes s o t h e = as_takes bytes spelled_four (spelled_operand w) (λ n. n < 2 ^ 32) (FitsForm w some_bytes) (λ x. refl) (λ x k. (x, refl, k)) s (four_at s) (λ x u i. four_takes s x u h i) o t e
operand_takes w a_text s o t h e = as_takes text spelled_text (spelled_operand w) (λ x. length x < 2 ^ 16) (FitsForm w a_text) (λ x. refl) (λ x k. (x, refl, k)) s (text_at s) (λ x u i. text_takes s x u h i) o t e
operand_takes w a_few s o t h e = as_takes few spelled_few (spelled_operand w) (AreRegisters 256) (FitsForm w a_few) (λ x. refl) (λ x k. (x, refl, k)) s (few_at s) (λ x u i. few_takes s x u h i) o t e
operand_takes w one_or_more s o t h e =
    as_takes few spelled_few (spelled_operand w) (λ x. AreRegisters 256 x × (0 < length x)) (FitsForm w one_or_more) (λ x. refl) (λ x k. (x, refl, k.0, k.1)) s (one_or_more_at s) (λ x u i. let p = one_or_more_takes s x u h i in (p.0, (p.1, p.2))) o t e
operand_takes w a_many s o t h e = as_takes many spelled_many (spelled_operand w) (AreRegisters 65536) (FitsForm w a_many) (λ x. refl) (λ x k. (x, refl, k)) s (many_at s) (λ x u i. many_takes s x u h i) o t e
operand_takes w a_numbered s o t h e = as_takes numbered spelled_numbered (spelled_operand w) (AreNumbered 65536) (FitsForm w a_numbered) (λ x. refl) (λ x k. (x, refl, k)) s (numbered_at s) (λ x u i. numbered_takes s x u h i) o t e

operands_take : (w : Width) (fs : List Form) (s : Left) (os : List Operand) (t : Left) → IsBytes s.rest → operands_at w fs s ≡ Ok (os, t) → Takes s (flat_map (spelled_operand w) os) t × FitForms w fs os
operands_take w [] s os t h e = subst (λ (p : List Operand × Left). Takes s (flat_map (spelled_operand w) p.0) p.1 × FitForms w [] p.0) (ok_is ([], s) (os, t) e) (takes_none s h, tt)
operands_take w (f ∷ fs) s os t h e =
    let a = bind_ok (operand_at w f s) (λ o. operands_at w fs o.1 >>= λ os. Ok (o.0 ∷ os.0, os.1)) (os, t) e in
    let b = bind_ok (operands_at w fs a.0.1) (λ os. Ok (a.0.0 ∷ os.0, os.1)) (os, t) a.2 in
    let p = operand_takes w f s a.0.0 a.0.1 h a.1 in
    let q = operands_take w fs a.0.1 b.0.0 b.0.1 p.0.bytes b.1 in
    subst (λ (p : List Operand × Left). Takes s (flat_map (spelled_operand w) p.0) p.1 × FitForms w (f ∷ fs) p.0) (ok_is (a.0.0 ∷ b.0.0, b.0.1) (os, t) b.2)
    (takes_then s (spelled_operand w a.0.0) a.0.1 (flat_map (spelled_operand w) b.0.0) b.0.1 p.0 q.0, (p.1, q.1))

abbrev LaidOut : Width → ℕ → Option (List Form) → Left → PlainInstr → Left → Type 0
LaidOut w n o s i t = (i.number ≡ n) × Takes s (flat_map (spelled_operand w) i.operands) t × ((fs : List Form) × (o ≡ Some fs) × FitForms w fs i.operands)

laid_out_takes : (w : Width) (at n : ℕ) (o : Option (List Form)) (s : Left) (i : PlainInstr) (t : Left) → IsBytes s.rest → laid_out_at w at n o s ≡ Ok (i, t) → LaidOut w n o s i t
laid_out_takes w at n None s i t h e = absurd cc
laid_out_takes w at n (Some fs) s i t h e =
    let a = bind_ok (operands_at w fs s) (λ os. Ok (of_number n os.0, os.1)) (i, t) e in
    let p = operands_take w fs s a.0.0 a.0.1 h a.1 in
    subst (λ (p : PlainInstr × Left). LaidOut w n (Some fs) s p.0 p.1) (ok_is (of_number n a.0.0, a.0.1) (i, t) a.2) (refl, p.0, (fs, refl, p.1))

instr_takes : (w : Width) (s : Left) (i : PlainInstr) (t : Left) → IsBytes s.rest → instr_at w s ≡ Ok (i, t) → Takes s (spelled_instr w i) t × IsInstr w i
unfolding instr_at
instr_takes w s i t h e =
    let a = bind_ok (byte_at s) (λ b. laid_out_at w s.at b.0 (slice_index_or layouts b.0 None) b.1) (i, t) e in
    let p = byte_takes s a.0.0 a.0.1 h a.1 in
    let q = laid_out_takes w s.at a.0.0 (slice_index_or layouts a.0.0 None) a.0.1 i t p.0.bytes a.2 in (
      takes_then s (i.number ∷ []) a.0.1 (flat_map (spelled_operand w) i.operands) t (takes_as s (a.0.0 ∷ []) (i.number ∷ []) a.0.1 (ap (λ n. n ∷ []) (sym q.0)) p.0) q.1,
      (q.2.0, ap (λ n. slice_index_or layouts n None) q.0 ∙ q.2.1, q.2.2),
    )

told_ok : {A : Type 0} (at : ℕ) (r : Read A) (x : A × Left) → told_at at r ≡ Ok x → r ≡ Ok x
told_ok at (Ok y) x e = e
told_ok at (Err f) x e = absurd cc

located_takes : (w : Width) (behind : ℕ) (s : Left) (i : PlainInstr) (t : Left) → IsBytes s.rest → located_at w behind s ≡ Ok (i, t) → Takes s (spelled_instr w i) t × IsInstr w i × (behind ≤ length t.rest)
unfolding located_at
located_takes w behind s i t h e =
    let a = bind_ok (told_at s.at (instr_at w s)) (λ i. cond (ltb (length i.1.rest) behind) (Err (BadField s.at)) (Ok i)) (i, t) e in
    let g = guard_ok (ltb (length a.0.1.rest) behind) (BadField s.at) (Ok a.0) (i, t) a.2 in
    let p = instr_takes w s i t h (told_ok s.at (instr_at w s) (i, t) (a.1 ∙ g.1)) in
    (p.0, p.1, subst (λ (z : PlainInstr × Left). behind ≤ length z.1.rest) (ok_is a.0 (i, t) g.1) (ltb-false _ _ g.0))

-- what instructions until so many bytes are left are
abbrev pub AreInstrs : Width → ℕ → List PlainInstr → Left → List PlainInstr → Left → Type 0
AreInstrs w behind before s is t = (js : List PlainInstr) × (is ≡ before ++ js) × Takes s (flat_map (spelled_instr w) js) t × (length t.rest ≡ behind) × AllByRecursion (IsInstr w) js

instrs_over : (w : Width) (behind : ℕ) (before : List PlainInstr) (s : Left) (is : List PlainInstr) (t : Left) → IsBytes s.rest → length s.rest ≡ behind → ◌≡◌ {A = Read (List PlainInstr)} (Ok (before, s)) (Ok (is, t)) → AreInstrs w behind before s is t
instrs_over w behind before s is t h e same =
    subst (λ (p : List PlainInstr × Left). AreInstrs w behind before s p.0 p.1) (ok_is (before, s) (is, t) same) ([], sym (append-nil before), takes_none s h, e, tt)

-- the turns suffice: each instruction has a byte or more
pub instrs_take : (w : Width) (behind n : ℕ) (before : List PlainInstr) (s : Left) (is : List PlainInstr) (t : Left) → IsBytes s.rest → behind ≤ length s.rest → length s.rest ≤ n + behind → instrs_at w behind before n s ≡ Ok (is, t) → AreInstrs w behind before s is t
unfolding instrs_at
instrs_take w behind zero before s is t h lo hi e = instrs_over w behind before s is t h (omega (arith, lo, hi)) e
instrs_take w behind (suc n) before s is t h lo hi e =
    let more = λ (i : PlainInstr × Left). instrs_at w behind (before ++ i.0 ∷ []) n i.1 in
    elim (chosen (ltb behind (length s.rest)) (located_at w behind s >>= more) (Ok (before, s)) (Ok (is, t)) e) [
      | inl y ↦
          let a = bind_ok (located_at w behind s) more (is, t) y.1 in
          let p = located_takes w behind s a.0.0 a.0.1 h a.1 in
          let len : length s.rest ≡ suc (length (flat_map (spelled_operand w) a.0.0.operands ++ a.0.1.rest)) = ap length p.0.parts in
          let shorter : length a.0.1.rest ≤ n + behind = omega (arith, hi, len, length-append (flat_map (spelled_operand w) a.0.0.operands) a.0.1.rest) in
          let r = instrs_take w behind n (before ++ a.0.0 ∷ []) a.0.1 is t p.0.bytes p.2 shorter a.2 in
          (a.0.0 ∷ r.0, r.1 ∙ append_assoc before (a.0.0 ∷ []) r.0, takes_then s (spelled_instr w a.0.0) a.0.1 (flat_map (spelled_instr w) r.0) t p.0 r.2, r.3, (p.1, r.4))
      | inr y ↦ let le : length s.rest ≤ behind = ltb-false _ _ y.0 in instrs_over w behind before s is t h (omega (arith, lo, le)) y.1
    ]

pub code_takes : (w : Width) (s : Left) (is : List PlainInstr) (t : Left) → IsBytes s.rest → code_at w s ≡ Ok (is, t) → Takes s (spelled_code w is) t × IsCode w is
unfolding code_at spelled_code
code_takes w s is t h e =
    let a = bind_ok (four_at s) (λ n. field n.0 n.1 >>= λ c. instrs_at w (length c.1.rest) [] n.0 n.1) (is, t) e in
    let b = bind_ok (field a.0.0 a.0.1) (λ c. instrs_at w (length c.1.rest) [] a.0.0 a.0.1) (is, t) a.2 in
    let p = four_takes s a.0.0 a.0.1 h a.1 in
    let q = field_takes a.0.0 a.0.1 b.0.0 b.0.1 p.0.bytes b.1 in
    let size : length a.0.1.rest ≡ length b.0.0 + length b.0.1.rest = ap length q.0.parts ∙ length-append b.0.0 b.0.1.rest in
    let r = instrs_take w (length b.0.1.rest) a.0.0 [] a.0.1 is t p.0.bytes (omega (arith, size)) (omega (arith, size, q.1)) b.2 in
    let C = flat_map (spelled_instr w) is in
    let taken : Takes a.0.1 C t = subst (λ js. Takes a.0.1 (flat_map (spelled_instr w) js) t) (sym r.1) r.2 in
    let total : length a.0.1.rest ≡ length C + length t.rest = ap length taken.parts ∙ length-append C t.rest in
    let len : length C ≡ a.0.0 = omega (arith, total, size, q.1, r.3) in (
      takes_then s (spelled_four (length C)) a.0.1 C t (takes_as s (spelled_four a.0.0) (spelled_four (length C)) a.0.1 (ap (λ m. spelled_four m) (sym len)) p.0) taken,
      (subst (AllByRecursion (IsInstr w)) (sym r.1) r.4, omega (arith, len, p.1)),
    )
