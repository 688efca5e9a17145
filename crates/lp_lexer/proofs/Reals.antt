-- A real at the front is digits, a dot and digits, as many as there are.
use Rattle.std.proofs.Common.{◌≡◌, ℕ, suc, ◌+◌, ◌<◌, ◌≤◌, List, [], ◌∷◌, ◌++◌, length, drop, take, Bool, true, false, ◌&&◌, nat_eq, refl, sym, ap, ◌∙◌, subst, arith, get_or, get_or-drop, length-drop, append_assoc, take-add}
use Rattle.std.specs.Prelude.{slice_index}
use Rattle.std.proofs.lemmas.Bool.{and_from, and_parts, eqb-true, eq-eqb}
use Rattle.std.proofs.lemmas.List.{take-append-drop, length-take-le, length-append}
use Rattle.std.proofs.Math.Seq.{drop-append_seam}
use Rattle.lp_lexer.specs.declared.class.Class.TheVariants.{Digit}
use Rattle.lp_lexer.specs.Bytes.{is_in, run}
use Rattle.lp_lexer.specs.Forms.{is_led, IsReal}
use Rattle.lp_lexer.proofs.Runs.{led_are, led_form, run_ends, run_over}
use Rattle.lp_lexer.proofs.Steps.{drop_one, take_one}
use Rattle.lp_lexer.proofs.Within.{digit_there}

dot_no_digit : is_in Digit 46 ≡ false
unfolding is_in
dot_no_digit = refl

-- a . and a digit stand behind so many bytes
abbrev pub HasPart : ℕ → List ℕ → Bool
HasPart n bs = nat_eq (slice_index bs n) 46 && is_in Digit (slice_index bs (n + 1))

abbrev pub real_len : List ℕ → ℕ
real_len bs = run Digit bs + 1 + run Digit (drop (run Digit bs + 1) bs)

-- what stands behind the digits of a real
parted : (bs part q : List ℕ) (r : ℕ) → drop r bs ≡ 46 ∷ (part ++ q) → is_led Digit Digit part ≡ true → (HasPart r bs ≡ true) × (drop (r + 1) bs ≡ part ++ q)
parted bs [] q r d p = absurd (cc)
parted bs (x ∷ xs) q r d p =
    let z : r + 0 ≡ r = omega arith in
    let dot : slice_index bs r ≡ 46 = ap (λ i. get_or bs i 0) (sym z) ∙ sym (get_or-drop r bs 0 0) ∙ ap (λ l. get_or l 0 0) d in
    let first : slice_index bs (r + 1) ≡ x = sym (get_or-drop r bs 1 0) ∙ ap (λ l. get_or l 1 0) d in
    let h : r < length bs = let l = length-drop r bs in let m = ap length d in omega (arith, l, m) in
    let both : get_or bs r 0 ∷ drop (r + 1) bs ≡ 46 ∷ ((x ∷ xs) ++ q) = sym (drop_one bs r h) ∙ d in
    (and_from _ _ (eq-eqb _ _ dot) (ap (is_in Digit) first ∙ (and_parts _ _ p).0), cc)

pub real_is : (bs : List ℕ) (m : ℕ) → m ≤ length bs → IsReal (take m bs) → (HasPart (run Digit bs) bs ≡ true) × (m ≤ real_len bs)
real_is bs m h (whole, part, e, w, p) =
    let q = drop m bs in
    let g : bs ≡ whole ++ 46 ∷ (part ++ q) = sym (take-append-drop m bs) ∙ ap (λ l. l ++ q) e ∙ append_assoc whole (46 ∷ part) q in
    let r : run Digit bs ≡ length whole = ap (run Digit) g ∙ run_ends Digit whole (part ++ q) 46 dot_no_digit (led_are Digit whole w) in
    let d : drop (run Digit bs) bs ≡ 46 ∷ (part ++ q) = ap (λ n. drop n bs) r ∙ ap (drop (length whole)) g ∙ drop-append_seam whole (46 ∷ (part ++ q)) in
    let s = parted bs part q (run Digit bs) d p in
    let over : length part ≤ run Digit (drop (run Digit bs + 1) bs) = subst (λ l. length part ≤ run Digit l) (sym s.1) (run_over Digit part q (led_are Digit part p)) in
    let size : m ≡ length whole + suc (length part) = sym (length-take-le m bs h) ∙ ap length e ∙ length-append whole (46 ∷ part) in
    (s.0, omega (arith, r, over, size))

led_rest : (bs : List ℕ) (n : ℕ) → n < length bs → is_in Digit (slice_index bs n) ≡ true → is_led Digit Digit (take (run Digit (drop n bs)) (drop n bs)) ≡ true
led_rest bs n h e = subst (λ l. is_led Digit Digit (take (run Digit l) l) ≡ true) (sym (drop_one bs n h)) (led_form Digit Digit (get_or bs n 0) (drop (n + 1) bs) e e)

pub real_form : (b : ℕ) (t : List ℕ) → is_in Digit b ≡ true → HasPart (run Digit (b ∷ t)) (b ∷ t) ≡ true → IsReal (take (real_len (b ∷ t)) (b ∷ t))
real_form b t e f =
    let bs = b ∷ t in
    let r = run Digit bs in
    let p = and_parts (nat_eq (slice_index bs r) 46) (is_in Digit (slice_index bs (r + 1))) f in
    let h : r + 1 < length bs = digit_there bs (r + 1) p.1 in
    let dot : get_or bs r 0 ≡ 46 = eqb-true (slice_index bs r) 46 p.0 in
    let more = take (run Digit (drop (r + 1) bs)) (drop (r + 1) bs) in
    let one : take (r + 1) bs ≡ take r bs ++ 46 ∷ [] = take_one bs r (omega (arith, h)) ∙ ap (λ x. take r bs ++ x ∷ []) dot in
    (take r bs, more, take-add (r + 1) (run Digit (drop (r + 1) bs)) bs ∙ ap (λ l. l ++ more) one ∙ append_assoc (take r bs) (46 ∷ []) more, led_form Digit Digit b t e e, led_rest bs (r + 1) h p.1)
