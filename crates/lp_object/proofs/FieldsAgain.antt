-- What is spelled as a field or as code is read again.
use Rattle.std.proofs.Common.{◌≡◌, ℕ, zero, suc, ◌+◌, ◌^◌, ◌<◌, ◌≤◌, Bool, true, false, cond, ltb, eqb, List, [], ◌∷◌, ◌++◌, length, None, Ok, Err, refl, sym, ap, subst, ◌∙◌, append_assoc, arith}
use Rattle.std.specs.Prelude.{slice_index_or}
use Rattle.std.specs.List.{flat_map, AllByRecursion}
use Rattle.std.proofs.lemmas.Bool.{le-ltb, lt-ltb, eq-eqb, ne_eqb}
use Rattle.std.proofs.lemmas.List.{append-nil, length-append}
use Rattle.lp_bytes.specs.declared.fault.Fault.TheVariants.{BadField}
use Rattle.lp_bytes.specs.Numbers.{spelled_one, spelled_two, spelled_four}
use Rattle.lp_bytes.specs.Reading.{Left, Read, ◌>>=◌, field, byte_at, two_at, four_at, integer_at, each_at}
use Rattle.lp_bytes.proofs.Again.{Runs, bind_runs, runs_as, next, field_again, byte_again, two_again, four_again, integer_again}
use Rattle.lp_object.specs.declared.width.Width.{Width}
use Rattle.lp_object.specs.declared.width.Width.TheVariants.{Two, Four}
use Rattle.lp_object.specs.Numbers.{spelled_number, spelled_text, spelled_few, spelled_many, spelled_numbered}
use Rattle.lp_object.specs.Plain.{Operand, argument, register, symbol, integer, bytes, text, few, many, numbered, PlainInstr, of_number}
use Rattle.lp_object.specs.Spelling.{spelled_operand, spelled_instr, spelled_code}
use Rattle.lp_object.specs.Spellable.{IsNumber, AreRegisters, AreNumbered, FitsForm, FitForms, IsInstr, IsCode, Each}
use Rattle.lp_object.specs.Reading.{as_read, number_at, text_at, name_length_at, name_at, choice_at, few_at, many_at, numbered_at, one_or_more_at, count_at, Form, an_argument, a_register, a_symbol, an_integer, some_bytes, a_text, a_few, one_or_more, a_many, a_numbered, layouts, operand_at, operands_at, laid_out_at, instr_at, told_at, located_at, instrs_at, code_at}
use Rattle.lp_object.proofs.FieldsFound.{low_byte}

pub number_again : (w : Width) (n : ℕ) (s : Left) (rest : List ℕ) → IsNumber w n → s.rest ≡ spelled_number w n ++ rest → Runs (number_at w s) n rest
unfolding number_at
number_again Two n s rest h e = two_again n s rest h e
number_again Four n s rest h e = four_again n s rest h e

pub count_again : (w : Width) (most n : ℕ) (s : Left) (rest : List ℕ) → n ≤ most → IsNumber w n → s.rest ≡ spelled_number w n ++ rest → Runs (count_at w most s) n rest
unfolding count_at
count_again w most n s rest le h e =
    bind_runs (number_at w s) (λ n. cond (ltb most n.0) (Err (BadField s.at)) (Ok n)) n rest n rest (number_again w n s rest h e) (λ t i. (t, ap (λ b. cond b (Err (BadField s.at)) (Ok (n, t))) (le-ltb most n le), i))

pub text_again : (x : List ℕ) (s : Left) (rest : List ℕ) → length x < 2 ^ 16 → s.rest ≡ spelled_text x ++ rest → Runs (text_at s) x rest
unfolding text_at spelled_text
text_again x s rest lt e =
    bind_runs (two_at s) (λ n. field n.0 n.1) (length x) (x ++ rest) x rest (two_again (length x) s (x ++ rest) lt (next s (spelled_two (length x)) x rest e)) (λ t i. field_again x (length x) t rest refl i)

pub name_length_again : (n : ℕ) (s : Left) (rest : List ℕ) → 0 < n → n < 256 → s.rest ≡ spelled_two n ++ rest → Runs (name_length_at s) n rest
unfolding name_length_at
name_length_again n s rest some lt e =
    let zero : eqb n 0 ≡ false = ne_eqb n 0 (λ i. absurd (omega (arith, i, some))) in
    let short : ltb 255 n ≡ false = le-ltb _ _ (omega (arith, lt)) in
    bind_runs (two_at s) (λ n. cond (eqb n.0 0) (Err (BadField s.at)) (cond (ltb 255 n.0) (Err (BadField s.at)) (Ok n))) n rest n rest (two_again n s rest (omega (arith, lt)) e)
    (λ t i. (t, ap (λ b. cond b (Err (BadField s.at)) (cond (ltb 255 n) (Err (BadField s.at)) (Ok (n, t)))) zero ∙ ap (λ b. cond b (Err (BadField s.at)) (Ok (n, t))) short, i))

pub name_again : (x : List ℕ) (s : Left) (rest : List ℕ) → 0 < length x → length x < 256 → s.rest ≡ spelled_text x ++ rest → Runs (name_at s) x rest
unfolding name_at spelled_text
name_again x s rest some lt e =
    bind_runs (name_length_at s) (λ n. field n.0 n.1) (length x) (x ++ rest) x rest (name_length_again (length x) s (x ++ rest) some lt (next s (spelled_two (length x)) x rest e)) (λ t i. field_again x (length x) t rest refl i)

pub each_again : {A : Type 0} (f : List A → Left → Read A) (spell : A → List ℕ) (P : List A → A → Type 0) → ((before : List A) (x : A) (s : Left) (rest : List ℕ) → P before x → s.rest ≡ spell x ++ rest → Runs (f before s) x rest)
    → (xs before : List A) (s : Left) (rest : List ℕ) → Each P before xs → s.rest ≡ flat_map spell xs ++ rest → Runs (each_at f before (length xs) s) (before ++ xs) rest
unfolding each_at
each_again f spell P k [] before s rest h e = (s, ap (λ ys. Ok (ys, s)) (sym (append-nil before)), e)
each_again {A = A} f spell P k (x ∷ xs) before s rest h e =
    let more = λ (y : A × Left). each_at f (before ++ y.0 ∷ []) (length xs) y.1 in
    bind_runs (f before s) more x (flat_map spell xs ++ rest) (before ++ x ∷ xs) rest (k before x s (flat_map spell xs ++ rest) h.0 (next s (spell x) (flat_map spell xs) rest e))
    (λ t i. let r = each_again f spell P k xs (before ++ x ∷ []) t rest h.1 i in (r.0, r.1 ∙ ap (λ ys. Ok (ys, r.0)) (append_assoc before (x ∷ []) xs), r.2))

always : {A : Type 0} (P : A → Type 0) (before xs : List A) → AllByRecursion P xs → Each (λ before x. P x) before xs
always P before [] h = tt
always P before (x ∷ xs) h = (h.0, always P (before ++ x ∷ []) xs h.1)

pub all_again : {A : Type 0} (f : Left → Read A) (spell : A → List ℕ) (P : A → Type 0) → ((x : A) (s : Left) (rest : List ℕ) → P x → s.rest ≡ spell x ++ rest → Runs (f s) x rest)
    → (xs : List A) (s : Left) (rest : List ℕ) → AllByRecursion P xs → s.rest ≡ flat_map spell xs ++ rest → Runs (each_at (λ before. f) [] (length xs) s) xs rest
all_again f spell P k xs s rest h e = each_again (λ before. f) spell (λ before x. P x) (λ before x s rest. k x s rest) xs [] s rest (always P [] xs h) e

pub few_again : (rs : List ℕ) (s : Left) (rest : List ℕ) → AreRegisters 256 rs → s.rest ≡ spelled_few rs ++ rest → Runs (few_at s) rs rest
unfolding few_at spelled_few
few_again rs s rest h e =
    let front : s.rest ≡ length rs ∷ (flat_map spelled_two rs ++ rest) = e ∙ append_assoc (spelled_one (length rs)) (flat_map spelled_two rs) rest ∙ ap (λ x. x ++ (flat_map spelled_two rs ++ rest)) (low_byte (length rs) h.0) in
    bind_runs (byte_at s) (λ n. each_at (λ before. two_at) [] n.0 n.1) (length rs) (flat_map spelled_two rs ++ rest) rs rest (byte_again (length rs) s (flat_map spelled_two rs ++ rest) front)
    (λ t i. all_again two_at spelled_two (λ r. r < 2 ^ 16) (λ x u v lt j. two_again x u v lt j) rs t rest h.1 i)

pub many_again : (rs : List ℕ) (s : Left) (rest : List ℕ) → AreRegisters 65536 rs → s.rest ≡ spelled_many rs ++ rest → Runs (many_at s) rs rest
unfolding many_at spelled_many
many_again rs s rest h e =
    bind_runs (two_at s) (λ n. each_at (λ before. two_at) [] n.0 n.1) (length rs) (flat_map spelled_two rs ++ rest) rs rest (two_again (length rs) s (flat_map spelled_two rs ++ rest) (omega (arith, h.0)) (next s (spelled_two (length rs)) (flat_map spelled_two rs) rest e))
    (λ t i. all_again two_at spelled_two (λ r. r < 2 ^ 16) (λ x u v lt j. two_again x u v lt j) rs t rest h.1 i)

pub numbered_again : (ns : List ℕ) (s : Left) (rest : List ℕ) → AreNumbered 65536 ns → s.rest ≡ spelled_numbered ns ++ rest → Runs (numbered_at s) ns rest
unfolding numbered_at spelled_numbered
numbered_again ns s rest h e =
    bind_runs (two_at s) (λ n. each_at (λ before. four_at) [] n.0 n.1) (length ns) (flat_map spelled_four ns ++ rest) ns rest (two_again (length ns) s (flat_map spelled_four ns ++ rest) (omega (arith, h.0)) (next s (spelled_two (length ns)) (flat_map spelled_four ns) rest e))
    (λ t i. all_again four_at spelled_four (λ r. r < 2 ^ 32) (λ x u v lt j. four_again x u v lt j) ns t rest h.1 i)

pub choice_again : (m n : ℕ) (c : Bool) (s : Left) (rest : List ℕ) → eqb n m ≡ false → s.rest ≡ cond c m n ∷ rest → Runs (choice_at m n s) c rest
unfolding choice_at
choice_again m n true s rest apart e =
    bind_runs (byte_at s) (λ b. cond (eqb b.0 m) (Ok (true, b.1)) (cond (eqb b.0 n) (Ok (false, b.1)) (Err (BadField s.at)))) m rest true rest (byte_again m s rest e)
    (λ t i. (t, ap (λ b. cond b (Ok (true, t)) (cond (eqb m n) (Ok (false, t)) (Err (BadField s.at)))) (eq-eqb m m refl), i))
choice_again m n false s rest apart e =
    bind_runs (byte_at s) (λ b. cond (eqb b.0 m) (Ok (true, b.1)) (cond (eqb b.0 n) (Ok (false, b.1)) (Err (BadField s.at)))) n rest false rest (byte_again n s rest e)
    (λ t i. (t, ap (λ b. cond b (Ok (true, t)) (cond (eqb n n) (Ok (false, t)) (Err (BadField s.at)))) apart ∙ ap (λ b. cond b (Ok (false, t)) (Err (BadField s.at))) (eq-eqb n n refl), i))

-- ---- instructions

pub as_again : {A B : Type 0} (g : A → B) (r : Read A) (x : A) (rest : List ℕ) → Runs r x rest → Runs (as_read g r) (g x) rest
as_again g r x rest p = bind_runs r (λ x. Ok (g x.0, x.1)) x rest (g x) rest p (λ t i. (t, refl, i))

by_form : (w : Width) (f : Form) (s : Left) (rest : List ℕ) (o u : Operand) → o ≡ u → s.rest ≡ spelled_operand w o ++ rest → (s.rest ≡ spelled_operand w u ++ rest → Runs (operand_at w f s) u rest) → Runs (operand_at w f s) o rest
by_form w f s rest o u i e k = subst (λ x. Runs (operand_at w f s) x rest) (sym i) (k (e ∙ ap (λ x. spelled_operand w x ++ rest) i))

one_or_more_again : (rs : List ℕ) (s : Left) (rest : List ℕ) → 0 < length rs → Runs (few_at s) rs rest → Runs (one_or_more_at s) rs rest
unfolding one_or_more_at
one_or_more_again rs s rest some p =
    let full : eqb (length rs) 0 ≡ false = ne_eqb (length rs) 0 (λ i. absurd (omega (arith, i, some))) in
    bind_runs (few_at s) (λ rs. cond (eqb (length rs.0) 0) (Err (BadField s.at)) (Ok rs)) rs rest rs rest p (λ t i. (t, ap (λ b. cond b (Err (BadField s.at)) (Ok (rs, t))) full, i))

operand_again : (w : Width) (f : Form) (o : Operand) (s : Left) (rest : List ℕ) → FitsForm w f o → s.rest ≡ spelled_operand w o ++ rest → Runs (operand_at w f s) o rest
operand_again w an_argument o s rest h e = by_form w an_argument s rest o (argument h.0) h.1 e (λ i. as_again argument (byte_at s) h.0 rest (byte_again h.0 s rest i))
operand_again w a_register o s rest h e = by_form w a_register s rest o (register h.0) h.1 e (λ i. as_again register (two_at s) h.0 rest (two_again h.0 s rest h.2 i))
operand_again w a_symbol o s rest h e = by_form w a_symbol s rest o (symbol h.0) h.1 e (λ i. as_again symbol (number_at w s) h.0 rest (number_again w h.0 s rest h.2 i))
operand_again w an_integer o s rest h e = by_form w an_integer s rest o (integer h.0) h.1 e (λ i. as_again integer (integer_at s) h.0 rest (integer_again h.0 s rest h.2 i))
operand_again w some_bytes o s rest h e = by_form w some_bytes s rest o (bytes h.0) h.1 e (λ i. as_again bytes (four_at s) h.0 rest (four_again h.0 s rest h.2 i))
operand_again w a_text o s rest h e = by_form w a_text s rest o (text h.0) h.1 e (λ i. as_again text (text_at s) h.0 rest (text_again h.0 s rest h.2 i))
operand_again w a_few o s rest h e = by_form w a_few s rest o (few h.0) h.1 e (λ i. as_again few (few_at s) h.0 rest (few_again h.0 s rest h.2 i))
operand_again w one_or_more o s rest h e = by_form w one_or_more s rest o (few h.0) h.1 e (λ i. as_again few (one_or_more_at s) h.0 rest (one_or_more_again h.0 s rest h.3 (few_again h.0 s rest h.2 i)))
operand_again w a_many o s rest h e = by_form w a_many s rest o (many h.0) h.1 e (λ i. as_again many (many_at s) h.0 rest (many_again h.0 s rest h.2 i))
operand_again w a_numbered o s rest h e = by_form w a_numbered s rest o (numbered h.0) h.1 e (λ i. as_again numbered (numbered_at s) h.0 rest (numbered_again h.0 s rest h.2 i))

operands_again : (w : Width) (fs : List Form) (os : List Operand) (s : Left) (rest : List ℕ) → FitForms w fs os → s.rest ≡ flat_map (spelled_operand w) os ++ rest → Runs (operands_at w fs s) os rest
operands_again w [] [] s rest h e = (s, refl, e)
operands_again w [] (o ∷ os) s rest h e = absurd h
operands_again w (f ∷ fs) [] s rest h e = absurd h
operands_again w (f ∷ fs) (o ∷ os) s rest h e =
    bind_runs (operand_at w f s) (λ o. operands_at w fs o.1 >>= λ os. Ok (o.0 ∷ os.0, os.1)) o (flat_map (spelled_operand w) os ++ rest) (o ∷ os) rest
    (operand_again w f o s (flat_map (spelled_operand w) os ++ rest) h.0 (next s (spelled_operand w o) (flat_map (spelled_operand w) os) rest e))
    (λ t i. bind_runs (operands_at w fs t) (λ os. Ok (o ∷ os.0, os.1)) os rest (o ∷ os) rest (operands_again w fs os t rest h.1 i) (λ u j. (u, refl, j)))

pub instr_again : (w : Width) (i : PlainInstr) (s : Left) (rest : List ℕ) → IsInstr w i → s.rest ≡ spelled_instr w i ++ rest → Runs (instr_at w s) i rest
unfolding instr_at
instr_again w i s rest h e =
    bind_runs (byte_at s) (λ b. laid_out_at w s.at b.0 (slice_index_or layouts b.0 None) b.1) i.number (flat_map (spelled_operand w) i.operands ++ rest) i rest (byte_again i.number s (flat_map (spelled_operand w) i.operands ++ rest) e)
    (λ t j. runs_as (as_read (of_number i.number) (operands_at w h.0 t)) (laid_out_at w s.at i.number (slice_index_or layouts i.number None) t) i rest (ap (λ o. laid_out_at w s.at i.number o t) h.1)
    (as_again (of_number i.number) (operands_at w h.0 t) i.operands rest (operands_again w h.0 i.operands t rest h.2 j)))

-- the instruction is whole before so many bytes are left
located_again : (w : Width) (behind : ℕ) (i : PlainInstr) (s : Left) (rest : List ℕ) → IsInstr w i → behind ≤ length rest → s.rest ≡ spelled_instr w i ++ rest → Runs (located_at w behind s) i rest
unfolding located_at
located_again w behind i s rest h le e =
    let p = instr_again w i s rest h e in
    let told : Runs (told_at s.at (instr_at w s)) i rest = (p.0, ap (λ q. told_at s.at q) p.1, p.2) in
    bind_runs (told_at s.at (instr_at w s)) (λ i. cond (ltb (length i.1.rest) behind) (Err (BadField s.at)) (Ok i)) i rest i rest told
    (λ t j. (t, ap (λ b. cond b (Err (BadField s.at)) (Ok (i, t))) (le-ltb (length t.rest) behind (omega (arith, ap length j, le))), j))

-- instructions until so many bytes are left
instrs_again : (w : Width) (is before : List PlainInstr) (n : ℕ) (s : Left) (rest : List ℕ) → AllByRecursion (IsInstr w) is → length (flat_map (spelled_instr w) is) ≤ n → s.rest ≡ flat_map (spelled_instr w) is ++ rest
    → Runs (instrs_at w (length rest) before n s) (before ++ is) rest
unfolding instrs_at
instrs_again w [] before zero s rest h le e = (s, ap (λ xs. Ok (xs, s)) (sym (append-nil before)), e)
instrs_again w [] before (suc n) s rest h le e =
    let l : length s.rest ≡ length rest = ap length e in
    (s, ap (λ b. cond b (located_at w (length rest) s >>= λ i. instrs_at w (length rest) (before ++ i.0 ∷ []) n i.1) (Ok (before, s))) (le-ltb (length rest) (length s.rest) (omega (arith, l))) ∙ ap (λ xs. Ok (xs, s)) (sym (append-nil before)), e)
instrs_again w (i ∷ is) before zero s rest h le e = absurd (omega (arith, le))
instrs_again w (i ∷ is) before (suc n) s rest h le e =
    let O = flat_map (spelled_operand w) i.operands in
    let R = flat_map (spelled_instr w) is in
    let behind = length rest in
    let whole : s.rest ≡ spelled_instr w i ++ (R ++ rest) = next s (spelled_instr w i) R rest e in
    let len : length s.rest ≡ suc (length (O ++ (R ++ rest))) = ap length whole in
    let long : length (R ++ rest) ≡ length R + behind = length-append R rest in
    let total : length (O ++ (R ++ rest)) ≡ length O + length (R ++ rest) = length-append O (R ++ rest) in
    let some : ltb behind (length s.rest) ≡ true = lt-ltb behind (length s.rest) (omega (arith, len, long, total)) in
    let more = λ (i : PlainInstr × Left). instrs_at w behind (before ++ i.0 ∷ []) n i.1 in
    let turn = located_at w behind s >>= more in
    let fewer : length R ≤ n = omega (arith, le, length-append O R) in
    runs_as turn (cond (ltb behind (length s.rest)) turn (Ok (before, s))) (before ++ i ∷ is) rest (ap (λ b. cond b turn (Ok (before, s))) some)
    (bind_runs (located_at w behind s) more i (R ++ rest) (before ++ i ∷ is) rest (located_again w behind i s (R ++ rest) h.0 (omega (arith, long)) whole)
    (λ t j. let r = instrs_again w is (before ++ i ∷ []) n t rest h.1 fewer j in (r.0, r.1 ∙ ap (λ xs. Ok (xs, r.0)) (append_assoc before (i ∷ []) is), r.2)))

pub code_again : (w : Width) (is : List PlainInstr) (s : Left) (rest : List ℕ) → IsCode w is → s.rest ≡ spelled_code w is ++ rest → Runs (code_at w s) is rest
unfolding code_at spelled_code
code_again w is s rest h e =
    let C = flat_map (spelled_instr w) is in
    bind_runs (four_at s) (λ n. field n.0 n.1 >>= λ c. instrs_at w (length c.1.rest) [] n.0 n.1) (length C) (C ++ rest) is rest (four_again (length C) s (C ++ rest) h.1 (next s (spelled_four (length C)) C rest e))
    (λ t i. bind_runs (field (length C) t) (λ c. instrs_at w (length c.1.rest) [] (length C) t) C rest is rest (field_again C (length C) t rest refl i)
    (λ u j. runs_as (instrs_at w (length rest) [] (length C) t) (instrs_at w (length u.rest) [] (length C) t) is rest (ap (λ r. instrs_at w (length r) [] (length C) t) j) (instrs_again w is [] (length C) t rest h.0 (omega arith) i)))
