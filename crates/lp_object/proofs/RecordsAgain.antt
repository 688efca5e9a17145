-- What is spelled as a record, a name or a fixity is read again.
use Rattle.std.proofs.Common.{◌≡◌, ℕ, suc, ◌-◌, ◌^◌, ◌<◌, true, false, cond, ltb, eqb, List, [], ◌∷◌, ◌++◌, length, Option, Some, None, Ok, Err, refl, ap, ◌∙◌, append_assoc, arith}
use Rattle.std.specs.Prelude.{slice_get}
use Rattle.std.specs.List.{flat_map, list_any}
use Rattle.std.proofs.lemmas.Bool.{le-ltb, ne_eqb}
use Rattle.lp_standard.specs.declared.fixity.Fixity.{Fixity}
use Rattle.lp_standard.specs.declared.fixity.Fixity.TheVariants.{Infix, Infixl, Infixr, Prefix, Prefixr, Postfix, Postfixl}
use Rattle.lp_code.specs.declared.record.RecordHead.{RecordHead}
use Rattle.lp_code.specs.declared.record.RecordHead.TheVariants as headed
use Rattle.lp_code.specs.Groups.{PlainKey, no_key, constant}
use Rattle.lp_code.specs.Groups as keyed
use Rattle.lp_bytes.specs.declared.fault.Fault.TheVariants.{BadField}
use Rattle.lp_bytes.specs.Numbers.{spelled_two, spelled_four, spelled_integer}
use Rattle.lp_bytes.specs.Reading.{Left, Read, ◌>>=◌, field, byte_at, two_at, four_at, integer_at, each_at}
use Rattle.lp_bytes.proofs.Again.{Runs, bind_runs, runs_as, next, field_again, byte_again, two_again, four_again, integer_again}
use Rattle.lp_object.specs.declared.width.Width.{Width}
use Rattle.lp_object.specs.Numbers.{spelled_number, spelled_text}
use Rattle.lp_object.specs.Plain.{PlainRecord}
use Rattle.lp_object.specs.Spelling.{spelled_fixity, fixity_number, spelled_head, spelled_key, spelled_code, spelled_record, spelled_records}
use Rattle.lp_object.specs.Spellable.{IsHead, IsKey, IsRecord, AreRecords, IsName, IsNew, IsFixity}
use Rattle.lp_object.specs.Reading.{as_read, number_at, text_at, name_length_at, name_at, choice_at, code_at, head_at, key_at, record_at, records_at, same_global, new_name_at, new_global_at, fixities, zero_at, fixed_at, fixity_at}
use Rattle.lp_object.proofs.RecordsFound.{made, record_spelled}
use Rattle.lp_object.proofs.FieldsAgain.{number_again, text_again, name_length_again, name_again, choice_again, all_again, as_again, code_again}

head_again : (w : Width) (o : Option RecordHead) (s : Left) (rest : List ℕ) → IsHead w o → s.rest ≡ spelled_head w o ++ rest → Runs (head_at w s) o rest
unfolding head_at
head_again w None s rest h e = absurd h
head_again w (Some (headed.Const c)) s rest h e =
    bind_runs (choice_at 0 1 s) (λ c. cond c.0 (as_read (λ n. Some (headed.Const n)) (number_at w c.1)) (as_read (λ r. Some (headed.Register r)) (two_at c.1))) true (spelled_number w c ++ rest) (Some (headed.Const c)) rest
    (choice_again 0 1 true s (spelled_number w c ++ rest) refl e) (λ t i. as_again (λ n. Some (headed.Const n)) (number_at w t) c rest (number_again w c t rest h i))
head_again w (Some (headed.Register r)) s rest h e =
    bind_runs (choice_at 0 1 s) (λ c. cond c.0 (as_read (λ n. Some (headed.Const n)) (number_at w c.1)) (as_read (λ r. Some (headed.Register r)) (two_at c.1))) false (spelled_two r ++ rest) (Some (headed.Register r)) rest
    (choice_again 0 1 false s (spelled_two r ++ rest) refl e) (λ t i. as_again (λ r. Some (headed.Register r)) (two_at t) r rest (two_again r t rest h i))

abbrev after_key : Width → ℕ → ℕ × Left → Read PlainKey
after_key w at b =
    cond (eqb b.0 0) (Ok (no_key, b.1)) (cond (eqb b.0 1) (as_read constant (number_at w b.1)) (cond (eqb b.0 2) (as_read keyed.integer (integer_at b.1)) (cond (eqb b.0 3) (as_read keyed.text (text_at b.1)) (Err (BadField at)))))

key_again : (w : Width) (k : PlainKey) (s : Left) (rest : List ℕ) → IsKey w k → s.rest ≡ spelled_key w k ++ rest → Runs (key_at w s) k rest
unfolding key_at
key_again w no_key s rest h e = bind_runs (byte_at s) (λ b. after_key w s.at b) 0 rest no_key rest (byte_again 0 s rest e) (λ t i. (t, refl, i))
key_again w (constant c) s rest h e =
    bind_runs (byte_at s) (λ b. after_key w s.at b) 1 (spelled_number w c ++ rest) (constant c) rest (byte_again 1 s (spelled_number w c ++ rest) e) (λ t i. as_again constant (number_at w t) c rest (number_again w c t rest h i))
key_again w (keyed.integer z) s rest h e =
    bind_runs (byte_at s) (λ b. after_key w s.at b) 2 (spelled_integer z ++ rest) (keyed.integer z) rest (byte_again 2 s (spelled_integer z ++ rest) e) (λ t i. as_again keyed.integer (integer_at t) z rest (integer_again z t rest h i))
key_again w (keyed.text x) s rest h e =
    bind_runs (byte_at s) (λ b. after_key w s.at b) 3 (spelled_text x ++ rest) (keyed.text x) rest (byte_again 3 s (spelled_text x ++ rest) e) (λ t i. as_again keyed.text (text_at t) x rest (text_again x t rest h i))

record_again : (w : Width) (r : PlainRecord) (s : Left) (rest : List ℕ) → IsRecord w r → s.rest ≡ spelled_record w r ++ rest → Runs (record_at w s) r rest
unfolding record_at
record_again w r s rest h e =
    let K = spelled_code w r.code in
    let G = spelled_key w r.key ++ K in
    let F = spelled_two r.registers ++ G in
    let D = spelled_two r.types ++ F in
    let C = spelled_two r.captured ++ D in
    let B = spelled_two r.captured_types ++ C in
    let front : s.rest ≡ cond r.program 1 0 ∷ (spelled_head w r.head ++ (B ++ rest)) = e ∙ ap (λ x. x ++ rest) (record_spelled w r) ∙ append_assoc (cond r.program 1 0 ∷ spelled_head w r.head) B rest in
    bind_runs (choice_at 1 0 s) (λ p. head_at w p.1 >>= λ o. two_at o.1 >>= λ a. two_at a.1 >>= λ b. two_at b.1 >>= λ c. two_at c.1 >>= λ d. key_at w d.1 >>= λ k. code_at w k.1 >>= λ is. Ok (made p.0 o.0 a.0 b.0 c.0 d.0 k.0 is.0, is.1))
    r.program (spelled_head w r.head ++ (B ++ rest)) r rest (choice_again 1 0 r.program s (spelled_head w r.head ++ (B ++ rest)) refl front)
    (λ a i. bind_runs (head_at w a) (λ o. two_at o.1 >>= λ a. two_at a.1 >>= λ b. two_at b.1 >>= λ c. two_at c.1 >>= λ d. key_at w d.1 >>= λ k. code_at w k.1 >>= λ is. Ok (made r.program o.0 a.0 b.0 c.0 d.0 k.0 is.0, is.1))
    r.head (B ++ rest) r rest (head_again w r.head a (B ++ rest) h.head_fits i)
    (λ b j. bind_runs (two_at b) (λ a. two_at a.1 >>= λ b. two_at b.1 >>= λ c. two_at c.1 >>= λ d. key_at w d.1 >>= λ k. code_at w k.1 >>= λ is. Ok (made r.program r.head a.0 b.0 c.0 d.0 k.0 is.0, is.1))
    r.captured_types (C ++ rest) r rest (two_again r.captured_types b (C ++ rest) h.captured_types_fit (next b (spelled_two r.captured_types) C rest j))
    (λ c k. bind_runs (two_at c) (λ b. two_at b.1 >>= λ c. two_at c.1 >>= λ d. key_at w d.1 >>= λ k. code_at w k.1 >>= λ is. Ok (made r.program r.head r.captured_types b.0 c.0 d.0 k.0 is.0, is.1))
    r.captured (D ++ rest) r rest (two_again r.captured c (D ++ rest) h.captured_fit (next c (spelled_two r.captured) D rest k))
    (λ d l. bind_runs (two_at d) (λ c. two_at c.1 >>= λ d. key_at w d.1 >>= λ k. code_at w k.1 >>= λ is. Ok (made r.program r.head r.captured_types r.captured c.0 d.0 k.0 is.0, is.1))
    r.types (F ++ rest) r rest (two_again r.types d (F ++ rest) h.types_fit (next d (spelled_two r.types) F rest l))
    (λ f m. bind_runs (two_at f) (λ d. key_at w d.1 >>= λ k. code_at w k.1 >>= λ is. Ok (made r.program r.head r.captured_types r.captured r.types d.0 k.0 is.0, is.1))
    r.registers (G ++ rest) r rest (two_again r.registers f (G ++ rest) h.registers_fit (next f (spelled_two r.registers) G rest m))
    (λ g n. bind_runs (key_at w g) (λ k. code_at w k.1 >>= λ is. Ok (made r.program r.head r.captured_types r.captured r.types r.registers k.0 is.0, is.1))
    r.key (K ++ rest) r rest (key_again w r.key g (K ++ rest) h.key_fits (next g (spelled_key w r.key) K rest n))
    (λ x o. bind_runs (code_at w x) (λ is. Ok (made r.program r.head r.captured_types r.captured r.types r.registers r.key is.0, is.1)) r.code rest r rest (code_again w r.code x rest h.code_fits o) (λ y p. (y, refl, p)))))))))

pub records_again : (w : Width) (most : ℕ) (rs : List PlainRecord) (s : Left) (rest : List ℕ) → most < 2 ^ 32 → AreRecords w most rs → s.rest ≡ spelled_records w rs ++ rest → Runs (records_at w most s) rs rest
unfolding records_at spelled_records
records_again w most rs s rest fits h e =
    let R = flat_map (spelled_record w) rs in
    let few : ltb most (length rs) ≡ false = le-ltb _ _ h.0 in
    bind_runs (four_at s) (λ n. cond (ltb most n.0) (Err (BadField s.at)) (each_at (λ before. record_at w) [] n.0 n.1)) (length rs) (R ++ rest) rs rest (four_again (length rs) s (R ++ rest) (omega (arith, h.0, fits)) (next s (spelled_four (length rs)) R rest e))
    (λ t i. runs_as (each_at (λ before. record_at w) [] (length rs) t) (cond (ltb most (length rs)) (Err (BadField s.at)) (each_at (λ before. record_at w) [] (length rs) t)) rs rest
    (ap (λ b. cond b (Err (BadField s.at)) (each_at (λ before. record_at w) [] (length rs) t)) few) (all_again (record_at w) (spelled_record w) (IsRecord w) (λ x u v f j. record_again w x u v f j) rs t rest h.1 i))

-- ---- names and fixities

pub new_name_again : (before : List (List ℕ × ℕ)) (x : List ℕ) (s : Left) (rest : List ℕ) → IsName x → IsNew before (x, 0) → s.rest ≡ spelled_text x ++ rest → Runs (new_name_at before s) x rest
unfolding new_name_at spelled_text
new_name_again before x s rest h new e =
    bind_runs (name_length_at s) (λ n. field n.0 n.1 >>= λ x. cond (list_any (same_global (x.0, 0)) before) (Err (BadField n.1.at)) (Ok x)) (length x) (x ++ rest) x rest
    (name_length_again (length x) s (x ++ rest) h.0 h.1 (next s (spelled_two (length x)) x rest e))
    (λ t i. bind_runs (field (length x) t) (λ x. cond (list_any (same_global (x.0, 0)) before) (Err (BadField t.at)) (Ok x)) x rest x rest (field_again x (length x) t rest refl i) (λ u j. (u, ap (λ b. cond b (Err (BadField t.at)) (Ok (x, u))) new, j)))

pub new_global_again : (before : List (List ℕ × ℕ)) (n : List ℕ × ℕ) (s : Left) (rest : List ℕ) → IsName n.0 → n.1 < 2 ^ 16 → IsNew before n → s.rest ≡ (spelled_text n.0 ++ spelled_two n.1) ++ rest → Runs (new_global_at before s) n rest
unfolding new_global_at
new_global_again before n s rest h lt new e =
    bind_runs (name_at s) (λ n. two_at n.1 >>= λ h. cond (list_any (same_global (n.0, h.0)) before) (Err (BadField n.1.at)) (Ok ((n.0, h.0), h.1))) n.0 (spelled_two n.1 ++ rest) n rest
    (name_again n.0 s (spelled_two n.1 ++ rest) h.0 h.1 (next s (spelled_text n.0) (spelled_two n.1) rest e))
    (λ t i. bind_runs (two_at t) (λ h. cond (list_any (same_global (n.0, h.0)) before) (Err (BadField t.at)) (Ok ((n.0, h.0), h.1))) n.1 rest n rest (two_again n.1 t rest lt i) (λ u j. (u, ap (λ b. cond b (Err (BadField t.at)) (Ok (n, u))) new, j)))

fixity_some : (f : Fixity) → (k : ℕ) × (fixity_number f ≡ suc k) × (slice_get fixities (fixity_number f - 1) ≡ Some f)
fixity_some Infix = (0, refl, refl)
fixity_some Infixl = (1, refl, refl)
fixity_some Infixr = (2, refl, refl)
fixity_some Prefix = (3, refl, refl)
fixity_some Prefixr = (4, refl, refl)
fixity_some Postfix = (5, refl, refl)
fixity_some Postfixl = (6, refl, refl)

pub fixity_again : (o : Option (Fixity × ℕ)) (s : Left) (rest : List ℕ) → IsFixity o → s.rest ≡ spelled_fixity o ++ rest → Runs (fixity_at s) o rest
unfolding fixity_at zero_at
fixity_again None s rest h e =
    bind_runs (byte_at s) (λ f. cond (eqb f.0 0) (zero_at f.1) (fixed_at s.at (slice_get fixities (f.0 - 1)) f.1)) 0 (0 ∷ rest) None rest (byte_again 0 s (0 ∷ rest) e)
    (λ t i. bind_runs (byte_at t) (λ n. cond (eqb n.0 0) (Ok (None, n.1)) (Err (BadField t.at))) 0 rest None rest (byte_again 0 t rest i) (λ u j. (u, refl, j)))
fixity_again (Some f) s rest h e =
    let k = fixity_some f.0 in
    let some : eqb (fixity_number f.0) 0 ≡ false = ne_eqb (fixity_number f.0) 0 (λ z. absurd (omega (arith, z, k.1))) in
    bind_runs (byte_at s) (λ x. cond (eqb x.0 0) (zero_at x.1) (fixed_at s.at (slice_get fixities (x.0 - 1)) x.1)) (fixity_number f.0) (f.1 ∷ rest) (Some f) rest (byte_again (fixity_number f.0) s (f.1 ∷ rest) e)
    (λ t i. runs_as (fixed_at s.at (Some f.0) t) (cond (eqb (fixity_number f.0) 0) (zero_at t) (fixed_at s.at (slice_get fixities (fixity_number f.0 - 1)) t)) (Some f) rest
    (ap (λ b. cond b (zero_at t) (fixed_at s.at (slice_get fixities (fixity_number f.0 - 1)) t)) some ∙ ap (λ o. fixed_at s.at o t) k.2)
    (bind_runs (byte_at t) (λ n. Ok (Some (f.0, n.0), n.1)) f.1 rest (Some f) rest (byte_again f.1 t rest i) (λ u j. (u, refl, j))))
