-- Instructions, read turn by turn.
use Rattle.std.proofs.Common.{◌≡◌, ℕ, suc, ◌-◌, ◌+◌, ◌≤◌, ◌<◌, cond, List, [], ◌∷◌, ◌++◌, length, map, Ok, sym, ap, ◌∙◌, arith}
use Rattle.std.proofs.lemmas.Bool.{lt-ltb, le-ltb}
use Rattle.lp_lemmas.proofs.Lists.{map_pushed}
use Rattle.lp_code.specs.declared.instruction.Instr.{Instr}
use Rattle.lp_bytes.specs.declared.fault.ReadError.{ReadError}
use Rattle.lp_bytes.specs.Reading.{Left, Read, ◌>>=◌, Fails}
use Rattle.lp_bytes.proofs.Looping.{fails_then, fails_so}
use Rattle.lp_object.specs.declared.width.Width.{Width}
use Rattle.lp_object.specs.Plain.{PlainInstr, plain_instr}
use Rattle.lp_object.specs.Reading.{located_at, instrs_at}

module _ (w : Width) (behind : ℕ) where
  instr_step : (before : List PlainInstr) (n : ℕ) (s : Left) → behind < length s.rest → instrs_at w behind before (suc n) s ≡ (located_at w behind s >>= λ i. instrs_at w behind (before ++ i.0 ∷ []) n i.1)
  unfolding instrs_at
  instr_step before n s lt = ap (λ b. cond b (located_at w behind s >>= λ i. instrs_at w behind (before ++ i.0 ∷ []) n i.1) (Ok (before, s))) (lt-ltb behind (length s.rest) lt)

  pub instr_read : (xs ys : List Instr) (x : Instr) (most i : ℕ) (s t : Left) (total : Read (List PlainInstr)) → ys ≡ xs ++ x ∷ [] → i < most → behind < length s.rest
      → located_at w behind s ≡ Ok (plain_instr x, t) → instrs_at w behind (map plain_instr xs) (most - i) s ≡ total → instrs_at w behind (map plain_instr ys) (most - (i + 1)) t ≡ total
  instr_read xs ys x most i s t total e lt inside h so_far =
      let k : most - i ≡ suc (most - (i + 1)) = omega (arith, lt) in
      let n = most - (i + 1) in
      let before = map plain_instr xs in
      ap (λ zs. instrs_at w behind zs n t) (map_pushed plain_instr xs ys x e)
      ∙ sym (ap (λ m. instrs_at w behind before m s) k ∙ instr_step before n s inside ∙ ap (λ r. r >>= λ j. instrs_at w behind (before ++ j.0 ∷ []) n j.1) h) ∙ so_far

  pub instr_fails : (e : ReadError) (xs : List Instr) (most i : ℕ) (s : Left) (total : Read (List PlainInstr)) → i < most → behind < length s.rest
      → Fails e (located_at w behind s) → instrs_at w behind (map plain_instr xs) (most - i) s ≡ total → Fails e total
  instr_fails e xs most i s total lt inside h so_far =
      let k : most - i ≡ suc (most - (i + 1)) = omega (arith, lt) in
      let n = most - (i + 1) in
      let before = map plain_instr xs in
      let r = located_at w behind s in
      fails_so e (r >>= λ j. instrs_at w behind (before ++ j.0 ∷ []) n j.1) total (sym so_far ∙ ap (λ m. instrs_at w behind before m s) k ∙ instr_step before n s inside) (fails_then e r (λ j. instrs_at w behind (before ++ j.0 ∷ []) n j.1) h)

  -- the end of the code, or of the turns
  pub instrs_over : (before : List PlainInstr) (most i : ℕ) (s : Left) (total : Read (List PlainInstr)) → i < most → length s.rest ≤ behind → instrs_at w behind before (most - i) s ≡ total → total ≡ Ok (before, s)
  unfolding instrs_at
  instrs_over before most i s total lt over so_far =
      let k : most - i ≡ suc (most - (i + 1)) = omega (arith, lt) in
      let n = most - (i + 1) in
      sym so_far ∙ ap (λ m. instrs_at w behind before m s) k ∙ ap (λ b. cond b (located_at w behind s >>= λ i. instrs_at w behind (before ++ i.0 ∷ []) n i.1) (Ok (before, s))) (le-ltb behind (length s.rest) over)

  pub instrs_done : (before : List PlainInstr) (most i : ℕ) (s : Left) (total : Read (List PlainInstr)) → most ≤ i → instrs_at w behind before (most - i) s ≡ total → total ≡ Ok (before, s)
  unfolding instrs_at
  instrs_done before most i s total le so_far =
      let k : most - i ≡ 0 = omega (arith, le) in
      sym so_far ∙ ap (λ m. instrs_at w behind before m s) k
