-- What is read as a record, a name or a fixity is spelled so.
use Rattle.std.proofs.Common.{◌≡◌, ℕ, zero, suc, ◌-◌, ◌^◌, ◌<◌, ◌≤◌, Bool, true, false, cond, ltb, eqb, List, [], ◌∷◌, ◌++◌, length, Option, Some, None, Ok, Err, refl, sym, ap, subst, ◌∙◌, arith, inl, inr}
use Rattle.std.specs.Prelude.{slice_get}
use Rattle.std.specs.List.{flat_map, list_any}
use Rattle.std.proofs.lemmas.Bool.{eqb-true, ltb-false}
use Rattle.lp_standard.specs.declared.fixity.Fixity.{Fixity}
use Rattle.lp_code.specs.declared.record.RecordHead.{RecordHead}
use Rattle.lp_code.specs.declared.record.RecordHead.TheVariants as headed
use Rattle.lp_code.specs.Groups.{PlainKey, no_key, constant}
use Rattle.lp_code.specs.Groups as keyed
use Rattle.lp_bytes.specs.declared.fault.Fault.TheVariants.{BadField}
use Rattle.lp_bytes.specs.Numbers.{spelled_two, spelled_four, spelled_integer}
use Rattle.lp_bytes.specs.Spellable.{IsInteger}
use Rattle.lp_bytes.specs.Reading.{Left, ◌>>=◌, field, byte_at, two_at, four_at, integer_at, each_at}
use Rattle.lp_bytes.proofs.Taking.{IsBytes, bind_ok, ok_is, guard_ok, held, chosen, Takes, takes_then, takes_as, field_takes, byte_takes, two_takes, four_takes, integer_takes}
use Rattle.lp_object.specs.declared.width.Width.{Width}
use Rattle.lp_object.specs.Numbers.{spelled_number, spelled_text}
use Rattle.lp_object.specs.Plain.{PlainInstr, PlainRecord}
use Rattle.lp_object.specs.Spelling.{spelled_fixity, fixity_number, spelled_head, spelled_key, spelled_code, spelled_record, spelled_records}
use Rattle.lp_object.specs.Spellable.{IsNumber, IsHead, IsKey, IsRecord, AreRecords, IsName, IsNew, IsFixity}
use Rattle.lp_object.specs.Reading.{as_read, number_at, text_at, name_length_at, name_at, choice_at, code_at, head_at, key_at, record_at, records_at, same_global, new_name_at, new_global_at, fixities, zero_at, fixed_at, fixity_at}
use Rattle.lp_object.proofs.Grouping.{seven_lists}
use Rattle.lp_object.proofs.FieldsFound.{behind_that, number_takes, text_takes, sized, name_length_takes, is_name, name_takes, choice_takes, all_take, as_takes, code_takes}

-- ---- records

head_rest : (w : Width) (c : Bool) (s : Left) (o : Option RecordHead) (t : Left) → IsBytes s.rest → cond c (as_read (λ n. Some (headed.Const n)) (number_at w s)) (as_read (λ r. Some (headed.Register r)) (two_at s)) ≡ Ok (o, t)
    → (text : List ℕ) × Takes s text t × (spelled_head w o ≡ cond c 0 1 ∷ text) × IsHead w o
head_rest w true s o t h e =
    let a = bind_ok (number_at w s) (λ x. Ok (Some (headed.Const x.0), x.1)) (o, t) e in
    let p = number_takes w s a.0.0 a.0.1 h a.1 in
    subst (λ (p : Option RecordHead × Left). (text : List ℕ) × Takes s text p.1 × (spelled_head w p.0 ≡ 0 ∷ text) × IsHead w p.0) (ok_is (Some (headed.Const a.0.0), a.0.1) (o, t) a.2) (spelled_number w a.0.0, p.0, refl, p.1)
head_rest w false s o t h e =
    let a = bind_ok (two_at s) (λ x. Ok (Some (headed.Register x.0), x.1)) (o, t) e in
    let p = two_takes s a.0.0 a.0.1 h a.1 in
    subst (λ (p : Option RecordHead × Left). (text : List ℕ) × Takes s text p.1 × (spelled_head w p.0 ≡ 1 ∷ text) × IsHead w p.0) (ok_is (Some (headed.Register a.0.0), a.0.1) (o, t) a.2) (spelled_two a.0.0, p.0, refl, p.1)

head_takes : (w : Width) (s : Left) (o : Option RecordHead) (t : Left) → IsBytes s.rest → head_at w s ≡ Ok (o, t) → Takes s (spelled_head w o) t × IsHead w o
unfolding head_at
head_takes w s o t h e =
    let a = bind_ok (choice_at 0 1 s) (λ c. cond c.0 (as_read (λ n. Some (headed.Const n)) (number_at w c.1)) (as_read (λ r. Some (headed.Register r)) (two_at c.1))) (o, t) e in
    let p = choice_takes 0 1 s a.0.0 a.0.1 h a.1 in
    let q = head_rest w a.0.0 a.0.1 o t p.bytes a.2 in
    (takes_as s (cond a.0.0 0 1 ∷ q.0) (spelled_head w o) t (sym q.2) (takes_then s (cond a.0.0 0 1 ∷ []) a.0.1 q.0 t p q.1), q.3)

key_takes : (w : Width) (s : Left) (k : PlainKey) (t : Left) → IsBytes s.rest → key_at w s ≡ Ok (k, t) → Takes s (spelled_key w k) t × IsKey w k
unfolding key_at
key_takes w s k t h e =
    let from_3 = λ (b : ℕ × Left). cond (eqb b.0 3) (as_read keyed.text (text_at b.1)) (Err (BadField s.at)) in
    let from_2 = λ (b : ℕ × Left). cond (eqb b.0 2) (as_read keyed.integer (integer_at b.1)) (from_3 b) in
    let from_1 = λ (b : ℕ × Left). cond (eqb b.0 1) (as_read constant (number_at w b.1)) (from_2 b) in
    let a = bind_ok (byte_at s) (λ b. cond (eqb b.0 0) (Ok (no_key, b.1)) (from_1 b)) (k, t) e in
    let p = (byte_takes s a.0.0 a.0.1 h a.1).0 in
    let at : (n : ℕ) → eqb a.0.0 n ≡ true → Takes s (n ∷ []) a.0.1 = λ n z. takes_as s (a.0.0 ∷ []) (n ∷ []) a.0.1 (ap (λ m. m ∷ []) (eqb-true _ _ z)) p in
    elim (chosen (eqb a.0.0 0) (Ok (no_key, a.0.1)) (from_1 a.0) (Ok (k, t)) a.2) [
      | inl y ↦ subst (λ (p : PlainKey × Left). Takes s (spelled_key w p.0) p.1 × IsKey w p.0) (ok_is (no_key, a.0.1) (k, t) y.1) (at 0 y.0, tt)
      | inr n ↦ elim (chosen (eqb a.0.0 1) (as_read constant (number_at w a.0.1)) (from_2 a.0) (Ok (k, t)) n.1) [
        | inl y ↦ as_takes constant (λ c. 1 ∷ spelled_number w c) (spelled_key w) (IsNumber w) (IsKey w) (λ x. refl) (λ x i. i) s (number_at w a.0.1)
            (λ x u i. let q = number_takes w a.0.1 x u p.bytes i in (takes_then s (1 ∷ []) a.0.1 (spelled_number w x) u (at 1 y.0) q.0, q.1)) k t y.1
        | inr n ↦ elim (chosen (eqb a.0.0 2) (as_read keyed.integer (integer_at a.0.1)) (from_3 a.0) (Ok (k, t)) n.1) [
          | inl y ↦ as_takes keyed.integer (λ z. 2 ∷ spelled_integer z) (spelled_key w) IsInteger (IsKey w) (λ x. refl) (λ x i. i) s (integer_at a.0.1)
              (λ x u i. let q = integer_takes a.0.1 x u p.bytes i in (takes_then s (2 ∷ []) a.0.1 (spelled_integer x) u (at 2 y.0) q.0, (q.1, q.2))) k t y.1
          | inr n ↦
              let y = held (eqb a.0.0 3) (as_read keyed.text (text_at a.0.1)) (BadField s.at) (k, t) n.1 in
              as_takes keyed.text (λ x. 3 ∷ spelled_text x) (spelled_key w) (λ x. length x < 2 ^ 16) (IsKey w) (λ x. refl) (λ x i. i) s (text_at a.0.1)
              (λ x u i. let q = text_takes a.0.1 x u p.bytes i in (takes_then s (3 ∷ []) a.0.1 (spelled_text x) u (at 3 y.0) q.0, q.1)) k t y.1
        ]
      ]
    ]

abbrev pub made : (program : Bool) → Option RecordHead → (captured_types captured types registers : ℕ) → PlainKey → List PlainInstr → PlainRecord
made p o a b c d k is = record { program = p; head = o; captured_types = a; captured = b; types = c; registers = d; key = k; code = is }

-- the parts of a record, one behind the other
abbrev pub record_parts : Width → PlainRecord → List ℕ
record_parts w r =
    (cond r.program 1 0 ∷ spelled_head w r.head)
    ++ (spelled_two r.captured_types ++ (spelled_two r.captured ++ (spelled_two r.types ++ (spelled_two r.registers ++ (spelled_key w r.key ++ spelled_code w r.code)))))

pub record_spelled : (w : Width) (r : PlainRecord) → spelled_record w r ≡ record_parts w r
unfolding spelled_record
record_spelled w r =
    seven_lists (cond r.program 1 0 ∷ spelled_head w r.head) (spelled_two r.captured_types) (spelled_two r.captured) (spelled_two r.types) (spelled_two r.registers) (spelled_key w r.key) (spelled_code w r.code)

abbrev RecordTaken : Width → Left → PlainRecord → Left → Type 0
RecordTaken w s r t = Takes s (record_parts w r) t × IsRecord w r

record_parts_take : (w : Width) (s : Left) (r : PlainRecord) (t : Left) → IsBytes s.rest → record_at w s ≡ Ok (r, t) → RecordTaken w s r t
unfolding record_at
record_parts_take w s r t h e =
    behind_that (RecordTaken w s r t) (choice_at 1 0 s) (λ p. head_at w p.1 >>= λ o. two_at o.1 >>= λ a. two_at a.1 >>= λ b. two_at b.1 >>= λ c. two_at c.1 >>= λ d. key_at w d.1 >>= λ k. code_at w k.1 >>= λ is. Ok (made p.0 o.0 a.0 b.0 c.0 d.0 k.0 is.0, is.1)) (r, t) e
    (λ p i1 e1. behind_that (RecordTaken w s r t) (head_at w p.1) (λ o. two_at o.1 >>= λ a. two_at a.1 >>= λ b. two_at b.1 >>= λ c. two_at c.1 >>= λ d. key_at w d.1 >>= λ k. code_at w k.1 >>= λ is. Ok (made p.0 o.0 a.0 b.0 c.0 d.0 k.0 is.0, is.1)) (r, t) e1
    (λ o i2 e2. behind_that (RecordTaken w s r t) (two_at o.1) (λ a. two_at a.1 >>= λ b. two_at b.1 >>= λ c. two_at c.1 >>= λ d. key_at w d.1 >>= λ k. code_at w k.1 >>= λ is. Ok (made p.0 o.0 a.0 b.0 c.0 d.0 k.0 is.0, is.1)) (r, t) e2
    (λ a i3 e3. behind_that (RecordTaken w s r t) (two_at a.1) (λ b. two_at b.1 >>= λ c. two_at c.1 >>= λ d. key_at w d.1 >>= λ k. code_at w k.1 >>= λ is. Ok (made p.0 o.0 a.0 b.0 c.0 d.0 k.0 is.0, is.1)) (r, t) e3
    (λ b i4 e4. behind_that (RecordTaken w s r t) (two_at b.1) (λ c. two_at c.1 >>= λ d. key_at w d.1 >>= λ k. code_at w k.1 >>= λ is. Ok (made p.0 o.0 a.0 b.0 c.0 d.0 k.0 is.0, is.1)) (r, t) e4
    (λ c i5 e5. behind_that (RecordTaken w s r t) (two_at c.1) (λ d. key_at w d.1 >>= λ k. code_at w k.1 >>= λ is. Ok (made p.0 o.0 a.0 b.0 c.0 d.0 k.0 is.0, is.1)) (r, t) e5
    (λ d i6 e6. behind_that (RecordTaken w s r t) (key_at w d.1) (λ k. code_at w k.1 >>= λ is. Ok (made p.0 o.0 a.0 b.0 c.0 d.0 k.0 is.0, is.1)) (r, t) e6
    (λ k i7 e7. behind_that (RecordTaken w s r t) (code_at w k.1) (λ is. Ok (made p.0 o.0 a.0 b.0 c.0 d.0 k.0 is.0, is.1)) (r, t) e7
    (λ is i8 e8.
    let tp = choice_takes 1 0 s p.0 p.1 h i1 in
    let to = head_takes w p.1 o.0 o.1 tp.bytes i2 in
    let ta = two_takes o.1 a.0 a.1 to.0.bytes i3 in
    let tb = two_takes a.1 b.0 b.1 ta.0.bytes i4 in
    let tc = two_takes b.1 c.0 c.1 tb.0.bytes i5 in
    let td = two_takes c.1 d.0 d.1 tc.0.bytes i6 in
    let tk = key_takes w d.1 k.0 k.1 td.0.bytes i7 in
    let ti = code_takes w k.1 is.0 is.1 tk.0.bytes i8 in
    let K = spelled_code w is.0 in
    let G = spelled_key w k.0 ++ K in
    let F = spelled_two d.0 ++ G in
    let D = spelled_two c.0 ++ F in
    let B = spelled_two b.0 ++ D in
    let q = takes_then a.1 (spelled_two b.0) b.1 D is.1 tb.0 (takes_then b.1 (spelled_two c.0) c.1 F is.1 tc.0 (takes_then c.1 (spelled_two d.0) d.1 G is.1 td.0 (takes_then d.1 (spelled_key w k.0) k.1 K is.1 tk.0 ti.0))) in
    let front = takes_then s (cond p.0 1 0 ∷ []) p.1 (spelled_head w o.0) o.1 tp to.0 in
    subst (λ (z : PlainRecord × Left). RecordTaken w s z.0 z.1) (ok_is (made p.0 o.0 a.0 b.0 c.0 d.0 k.0 is.0, is.1) (r, t) e8) (
      takes_then s (cond p.0 1 0 ∷ spelled_head w o.0) o.1 (spelled_two a.0 ++ B) is.1 front (takes_then o.1 (spelled_two a.0) a.1 B is.1 ta.0 q),
      record { head_fits = to.1; captured_types_fit = ta.1; captured_fit = tb.1; types_fit = tc.1; registers_fit = td.1; key_fits = tk.1; code_fits = ti.1 },
    )))))))))

record_takes : (w : Width) (s : Left) (r : PlainRecord) (t : Left) → IsBytes s.rest → record_at w s ≡ Ok (r, t) → Takes s (spelled_record w r) t × IsRecord w r
record_takes w s r t h e = let p = record_parts_take w s r t h e in (takes_as s (record_parts w r) (spelled_record w r) t (sym (record_spelled w r)) p.0, p.1)

pub records_take : (w : Width) (most : ℕ) (s : Left) (rs : List PlainRecord) (t : Left) → IsBytes s.rest → records_at w most s ≡ Ok (rs, t) → Takes s (spelled_records w rs) t × AreRecords w most rs
unfolding records_at spelled_records
records_take w most s rs t h e =
    let a = bind_ok (four_at s) (λ n. cond (ltb most n.0) (Err (BadField s.at)) (each_at (λ before. record_at w) [] n.0 n.1)) (rs, t) e in
    let g = guard_ok (ltb most a.0.0) (BadField s.at) (each_at (λ before. record_at w) [] a.0.0 a.0.1) (rs, t) a.2 in
    let p = (four_takes s a.0.0 a.0.1 h a.1).0 in
    let q = all_take (record_at w) (spelled_record w) (IsRecord w) (record_takes w) a.0.0 a.0.1 rs t p.bytes g.1 in
    let few : a.0.0 ≤ most = ltb-false _ _ g.0 in
    (takes_then s (spelled_four (length rs)) a.0.1 (flat_map (spelled_record w) rs) t (takes_as s (spelled_four a.0.0) (spelled_four (length rs)) a.0.1 (ap (λ m. spelled_four m) (sym q.1)) p) q.0, (omega (arith, few, q.1), q.2))

-- ---- names and fixities

pub new_name_takes : (before : List (List ℕ × ℕ)) (s : Left) (n : List ℕ) (t : Left) → IsBytes s.rest → new_name_at before s ≡ Ok (n, t) → Takes s (spelled_text n) t × IsName n × IsNew before (n, 0)
unfolding new_name_at
new_name_takes before s n t h e =
    let a = bind_ok (name_length_at s) (λ n. field n.0 n.1 >>= λ x. cond (list_any (same_global (x.0, 0)) before) (Err (BadField n.1.at)) (Ok x)) (n, t) e in
    let b = bind_ok (field a.0.0 a.0.1) (λ x. cond (list_any (same_global (x.0, 0)) before) (Err (BadField a.0.1.at)) (Ok x)) (n, t) a.2 in
    let g = guard_ok (list_any (same_global (b.0.0, 0)) before) (BadField a.0.1.at) (Ok b.0) (n, t) b.2 in
    let p = name_length_takes s a.0.0 a.0.1 h a.1 in
    let q = field_takes a.0.0 a.0.1 n t p.0.bytes (b.1 ∙ g.1) in
    (sized s a.0.0 a.0.1 n t p.0 q, is_name n a.0.0 q.1 p.1, subst (λ (z : List ℕ × Left). IsNew before (z.0, 0)) (ok_is b.0 (n, t) g.1) g.0)

pub new_global_takes : (before : List (List ℕ × ℕ)) (s : Left) (n : List ℕ × ℕ) (t : Left) → IsBytes s.rest → new_global_at before s ≡ Ok (n, t) → Takes s (spelled_text n.0 ++ spelled_two n.1) t × IsName n.0 × (n.1 < 2 ^ 16) × IsNew before n
unfolding new_global_at
new_global_takes before s n t h e =
    let a = bind_ok (name_at s) (λ n. two_at n.1 >>= λ h. cond (list_any (same_global (n.0, h.0)) before) (Err (BadField n.1.at)) (Ok ((n.0, h.0), h.1))) (n, t) e in
    let b = bind_ok (two_at a.0.1) (λ h. cond (list_any (same_global (a.0.0, h.0)) before) (Err (BadField a.0.1.at)) (Ok ((a.0.0, h.0), h.1))) (n, t) a.2 in
    let g = guard_ok (list_any (same_global (a.0.0, b.0.0)) before) (BadField a.0.1.at) (Ok ((a.0.0, b.0.0), b.0.1)) (n, t) b.2 in
    let p = name_takes s a.0.0 a.0.1 h a.1 in
    let q = two_takes a.0.1 b.0.0 b.0.1 p.0.bytes b.1 in
    subst (λ (x : (List ℕ × ℕ) × Left). Takes s (spelled_text x.0.0 ++ spelled_two x.0.1) x.1 × IsName x.0.0 × (x.0.1 < 2 ^ 16) × IsNew before x.0) (ok_is ((a.0.0, b.0.0), b.0.1) (n, t) g.1)
    (takes_then s (spelled_text a.0.0) a.0.1 (spelled_two b.0.0) b.0.1 p.0 q.0, p.1, q.1, g.0)

some_is : {A : Type 0} (x y : A) → ◌≡◌ {A = Option A} (Some x) (Some y) → x ≡ y
some_is x y e = cc

-- the number of a fixity that stands at a place
fixity_placed : (n : ℕ) (f : Fixity) → slice_get fixities n ≡ Some f → fixity_number f ≡ suc n
fixity_placed zero f e = ap fixity_number (sym (some_is _ f e))
fixity_placed (suc zero) f e = ap fixity_number (sym (some_is _ f e))
fixity_placed (suc (suc zero)) f e = ap fixity_number (sym (some_is _ f e))
fixity_placed (suc (suc (suc zero))) f e = ap fixity_number (sym (some_is _ f e))
fixity_placed (suc (suc (suc (suc zero)))) f e = ap fixity_number (sym (some_is _ f e))
fixity_placed (suc (suc (suc (suc (suc zero))))) f e = ap fixity_number (sym (some_is _ f e))
fixity_placed (suc (suc (suc (suc (suc (suc zero)))))) f e = ap fixity_number (sym (some_is _ f e))
fixity_placed (suc (suc (suc (suc (suc (suc (suc n))))))) f e = absurd cc

zero_takes : (s : Left) (o : Option (Fixity × ℕ)) (t : Left) → IsBytes s.rest → zero_at s ≡ Ok (o, t) → Takes s (0 ∷ []) t × (o ≡ None)
unfolding zero_at
zero_takes s o t h e =
    let a = bind_ok (byte_at s) (λ n. cond (eqb n.0 0) (Ok (None, n.1)) (Err (BadField s.at))) (o, t) e in
    let k = held (eqb a.0.0 0) (Ok (None, a.0.1)) (BadField s.at) (o, t) a.2 in
    let p = (byte_takes s a.0.0 a.0.1 h a.1).0 in
    subst (λ (x : Option (Fixity × ℕ) × Left). Takes s (0 ∷ []) x.1 × (x.0 ≡ None)) (ok_is (None, a.0.1) (o, t) k.1) (takes_as s (a.0.0 ∷ []) (0 ∷ []) a.0.1 (ap (λ n. n ∷ []) (eqb-true _ _ k.0)) p, refl)

fixed_takes : (at n : ℕ) (f : Option Fixity) (s : Left) (o : Option (Fixity × ℕ)) (t : Left) → slice_get fixities n ≡ f → IsBytes s.rest → fixed_at at f s ≡ Ok (o, t) → (text : List ℕ) × Takes s text t × (spelled_fixity o ≡ suc n ∷ text) × IsFixity o
fixed_takes at n None s o t i h e = absurd cc
fixed_takes at n (Some f) s o t i h e =
    let a = bind_ok (byte_at s) (λ m. Ok (Some (f, m.0), m.1)) (o, t) e in
    let p = byte_takes s a.0.0 a.0.1 h a.1 in
    subst (λ (x : Option (Fixity × ℕ) × Left). (text : List ℕ) × Takes s text x.1 × (spelled_fixity x.0 ≡ suc n ∷ text) × IsFixity x.0) (ok_is (Some (f, a.0.0), a.0.1) (o, t) a.2)
    (a.0.0 ∷ [], p.0, ap (λ m. m ∷ a.0.0 ∷ []) (fixity_placed n f i), p.1)

pred_suc : (n : ℕ) → eqb n 0 ≡ false → suc (n - 1) ≡ n
pred_suc zero e = absurd cc
pred_suc (suc n) e = omega arith

pub fixity_takes : (s : Left) (o : Option (Fixity × ℕ)) (t : Left) → IsBytes s.rest → fixity_at s ≡ Ok (o, t) → Takes s (spelled_fixity o) t × IsFixity o
unfolding fixity_at
fixity_takes s o t h e =
    let a = bind_ok (byte_at s) (λ f. cond (eqb f.0 0) (zero_at f.1) (fixed_at s.at (slice_get fixities (f.0 - 1)) f.1)) (o, t) e in
    let p = (byte_takes s a.0.0 a.0.1 h a.1).0 in
    elim (chosen (eqb a.0.0 0) (zero_at a.0.1) (fixed_at s.at (slice_get fixities (a.0.0 - 1)) a.0.1) (Ok (o, t)) a.2) [
      | inl y ↦
          let q = zero_takes a.0.1 o t p.bytes y.1 in
          let text = takes_then s (0 ∷ []) a.0.1 (0 ∷ []) t (takes_as s (a.0.0 ∷ []) (0 ∷ []) a.0.1 (ap (λ n. n ∷ []) (eqb-true _ _ y.0)) p) q.0 in
          (takes_as s (0 ∷ 0 ∷ []) (spelled_fixity o) t (ap spelled_fixity (sym q.1)) text, subst IsFixity (sym q.1) tt)
      | inr y ↦
          let q = fixed_takes s.at (a.0.0 - 1) (slice_get fixities (a.0.0 - 1)) a.0.1 o t refl p.bytes y.1 in
          let k = pred_suc a.0.0 y.0 in
          (takes_as s (a.0.0 ∷ q.0) (spelled_fixity o) t (ap (λ n. n ∷ q.0) (sym k) ∙ sym q.2) (takes_then s (a.0.0 ∷ []) a.0.1 q.0 t p q.1), q.3)
    ]
