-- What stands at the front is some of the bytes that are there.
use Rattle.std.proofs.Common.{◌≡◌, ℕ, suc, ◌+◌, ◌-◌, ◌<◌, ◌≤◌, List, [], ◌∷◌, length, drop, take, Option, Some, None, Bool, true, false, ◌&&◌, nat_eq, sym, ◌∙◌, subst, arith, length-drop, true≢false, inl, inr}
use Rattle.std.specs.Prelude.{if◌then◌else◌, IfSome, slice_index, nat_lt, pos, ◌^◌}
use Rattle.std.proofs.lemmas.Bool.{and_parts, eqb-true, cases_lt, cond_both}
use Rattle.lp_lemmas.proofs.Booleans.{choice_has}
use Rattle.lp_lexer.specs.declared.class.Class.{Class}
use Rattle.lp_lexer.specs.declared.class.Class.TheVariants.{Blank, Lower, Upper, Digit, Word, Symbol, Alone, Escaped, Line, Inside}
use Rattle.lp_lexer.specs.declared.token.TokenKind.{TokenKind}
use Rattle.lp_lexer.specs.declared.token.TokenKind.TheVariants as kind
use Rattle.lp_lexer.specs.declared.token.Piece.TheVariants.{Found, Bad, OpenText, BigNumber}
use Rattle.lp_lexer.specs.declared.token.Ended.{Ended}
use Rattle.lp_lexer.specs.declared.token.Ended.TheVariants.{Closed, BadAt, Open}
use Rattle.lp_lexer.specs.Bytes.{is_in, run}
use Rattle.lp_lexer.specs.Front.{comment_len, later, text_end, further, closes, symbol_len, decimal_from, number_of, number_at, comment_at, text_at, mark_at, front, IsEndWithin, IsWithin}
use Rattle.lp_lexer.proofs.Steps.{line_first, lower_word, upper_word, no_digit_past}

if_run : (t : Bool) (n len : ℕ) → n ≤ len → (if t then suc n else 0) ≤ suc len
if_run true n len h = omega arith
if_run false n len h = omega arith

pub run_within : (k : Class) (bs : List ℕ) → run k bs ≤ length bs
run_within k [] = omega arith
run_within k (b ∷ bs) = if_run (is_in k b) (run k bs) (length bs) (run_within k bs)

run_some : (k : Class) (b : ℕ) (bs : List ℕ) → is_in k b ≡ true → 0 < run k (b ∷ bs)
run_some k b bs h = rw h (omega arith)

pub symbol_within : (bs : List ℕ) → symbol_len bs ≤ length bs
symbol_within [] = omega arith
symbol_within (b ∷ []) = choice_has (λ n. n ≤ 1) (is_in Symbol b) 1 0 (omega arith) (omega arith)
symbol_within (b ∷ c ∷ bs) = choice_has (λ n. n ≤ suc (suc (length bs))) (nat_eq b 47 && nat_eq c 42) 0 _ (omega arith) (if_run (is_in Symbol b) (symbol_len (c ∷ bs)) _ (symbol_within (c ∷ bs)))

symbol_some : (b : ℕ) (bs : List ℕ) → (nat_eq b 47 && nat_eq (slice_index bs 0) 42) ≡ false → is_in Symbol b ≡ true → 0 < symbol_len (b ∷ bs)
symbol_some b [] e f = rw f (omega arith)
symbol_some b (c ∷ bs) e f = rw (e, f) (omega arith)

later_within : (k len : ℕ) (o : Option ℕ) → IfSome o (λ n. n ≤ len) → IfSome (later k o) (λ n. n ≤ k + len)
later_within k len None h = tt
later_within k len (Some n) h = omega arith

pub comment_within : (d : ℕ) (bs : List ℕ) → IfSome (comment_len d bs) (λ n. n ≤ length bs)
comment_within d [] = tt
comment_within d (b ∷ []) = tt
comment_within d (b ∷ c ∷ bs) =
    let P : Option ℕ → Type 0 = λ o. IfSome o (λ n. n ≤ suc (suc (length bs))) in
    let two : 2 + length bs ≡ suc (suc (length bs)) = omega arith in
    let one : 1 + suc (length bs) ≡ suc (suc (length bs)) = omega arith in
    let deeper = subst (λ len. IfSome (later 2 (comment_len (suc d) bs)) (λ n. n ≤ len)) two (later_within 2 (length bs) _ (comment_within (suc d) bs)) in
    let back = subst (λ len. IfSome (later 2 (comment_len (d - 1) bs)) (λ n. n ≤ len)) two (later_within 2 (length bs) _ (comment_within (d - 1) bs)) in
    let on = subst (λ len. IfSome (later 1 (comment_len d (c ∷ bs))) (λ n. n ≤ len)) one (later_within 1 (suc (length bs)) _ (comment_within d (c ∷ bs))) in
    choice_has P (nat_eq b 47 && nat_eq c 42) _ _ deeper (choice_has P (nat_eq b 42 && nat_eq c 47) _ _ (choice_has P (nat_eq d 1) (Some 2) _ (omega arith) back) on)

further_within : (k len : ℕ) (e : Ended) → IsEndWithin len e → IsEndWithin (k + len) (further k e)
further_within k len (Closed n) h = omega arith
further_within k len (BadAt n) h = omega arith
further_within k len Open h = tt

pub text_within : (bs : List ℕ) → IsEndWithin (length bs) (text_end bs)
text_within [] = tt
text_within (b ∷ []) =
    let P = IsEndWithin 1 in
    choice_has P (nat_eq b 34) (Closed 1) _ (omega arith) (choice_has P (nat_eq b 10) Open _ tt (choice_has P (nat_eq b 92) (BadAt 0) _ (omega arith) (choice_has P (is_in Inside b) Open (BadAt 0) tt (omega arith))))
text_within (b ∷ c ∷ bs) =
    let P = IsEndWithin (suc (suc (length bs))) in
    let two : 2 + length bs ≡ suc (suc (length bs)) = omega arith in
    let one : 1 + suc (length bs) ≡ suc (suc (length bs)) = omega arith in
    let after = subst (λ len. IsEndWithin len (further 2 (text_end bs))) two (further_within 2 (length bs) _ (text_within bs)) in
    let on = subst (λ len. IsEndWithin len (further 1 (text_end (c ∷ bs)))) one (further_within 1 (suc (length bs)) _ (text_within (c ∷ bs))) in
    choice_has P (nat_eq b 34) (Closed 1) _ (omega arith) (choice_has P (nat_eq b 10) Open _ tt (choice_has P (nat_eq b 92) _ _ (choice_has P (is_in Escaped c) _ (BadAt 0) after (omega arith)) (choice_has P (is_in Inside b) _ (BadAt 0) on (omega arith))))

text_at_within : (len : ℕ) (e : Ended) (bs : List ℕ) → IsEndWithin len e → IsWithin (suc len) (text_at e bs)
text_at_within len (Closed n) bs h = (omega arith, omega arith)
text_at_within len (BadAt n) bs h = cond_both (closes (drop n bs)) (Bad (1 + n)) OpenText (IsWithin (suc len)) (λ _. omega arith) (λ _. tt)
text_at_within len Open bs h = tt

comment_at_within : (len : ℕ) (o : Option ℕ) → IfSome o (λ n. n ≤ len) → IsWithin (2 + len) (comment_at o)
comment_at_within len None h = tt
comment_at_within len (Some n) h = (omega arith, omega arith)

pub digit_there : (bs : List ℕ) (i : ℕ) → is_in Digit (slice_index bs i) ≡ true → i < length bs
digit_there bs i h = elim (cases_lt i (length bs)) [ inl l ↦ l | inr l ↦ absurd (true≢false (sym h ∙ no_digit_past bs i l)) ]

some_more : (n r : ℕ) → 0 < n + 1 + r
some_more n r = omega arith

sum_within : (n r len rest : ℕ) → n + 1 < len → r ≤ rest → rest ≡ len - (n + 1) → n + 1 + r ≤ len
sum_within n r len rest a b e = omega (arith, a, b, e)

value_within : (n len v : ℕ) → 0 < n → n ≤ len → IsWithin len (number_of n v)
value_within n len v p h = cond_both (nat_lt v (2 ^ 63)) (Found (kind.Number (pos v)) n) BigNumber (IsWithin len) (λ _. (p, h)) (λ _. tt)

pub real_within : (n : ℕ) (bs : List ℕ) → (nat_eq (slice_index bs n) 46 && is_in Digit (slice_index bs (n + 1))) ≡ true → IsWithin (length bs) (Found kind.Real (n + 1 + run Digit (drop (n + 1) bs)))
real_within n bs e =
    let l : n + 1 < length bs = digit_there bs (n + 1) (and_parts (nat_eq (slice_index bs n) 46) (is_in Digit (slice_index bs (n + 1))) e).1 in
    let r = run_within Digit (drop (n + 1) bs) in
    let d = length-drop (n + 1) bs in
    (some_more n (run Digit (drop (n + 1) bs)), sum_within n (run Digit (drop (n + 1) bs)) (length bs) (length (drop (n + 1) bs)) l r d)

pub digits_within : (n : ℕ) (bs : List ℕ) → 0 < n → n ≤ length bs → IsWithin (length bs) (number_at n bs)
digits_within n bs p h =
    cond_both (nat_eq (slice_index bs n) 46 && is_in Digit (slice_index bs (n + 1))) (Found kind.Real (n + 1 + run Digit (drop (n + 1) bs))) (number_of n (decimal_from 0 (take n bs))) (IsWithin (length bs)) (real_within n bs) (λ _. value_within n (length bs) (decimal_from 0 (take n bs)) p h)

mark_within : (b len : ℕ) → 0 < len → IsWithin len (mark_at b)
mark_within b len p =
    let P = IsWithin len in
    let on : (k : _) → P (Found k 1) = λ k. (omega arith, omega arith) in
    cond_both (nat_eq b 40) _ _ P (λ _. on kind.Open) (λ _. cond_both (nat_eq b 41) _ _ P (λ _. on kind.Close)
    (λ _. cond_both (nat_eq b 91) _ _ P (λ _. on kind.OpenList) (λ _. cond_both (nat_eq b 93) _ _ P (λ _. on kind.CloseList)
    (λ _. cond_both (nat_eq b 124) _ _ P (λ _. on kind.Bar) (λ _. cond_both (nat_eq b 46) _ _ P (λ _. on kind.Dot)
    (λ _. cond_both (nat_eq b 92) _ _ P (λ _. on kind.Backslash) (λ _. omega arith)))))))

comment_front : (b : ℕ) (bs : List ℕ) → (nat_eq b 47 && nat_eq (slice_index (b ∷ bs) 1) 42) ≡ true → IsWithin (length (b ∷ bs)) (comment_at (comment_len 1 (drop 2 (b ∷ bs))))
comment_front b [] h = absurd (true≢false (sym (and_parts _ _ h).1))
comment_front b (c ∷ bs) h =
    let two : 2 + length bs ≡ suc (suc (length bs)) = omega arith in
    subst (λ len. IsWithin len (comment_at (comment_len 1 bs))) two (comment_at_within (length bs) _ (comment_within 1 bs))

pub symbol_front : (b : ℕ) (bs : List ℕ) → (nat_eq b 47 && nat_eq (slice_index (b ∷ bs) 1) 42) ≡ false → is_in Symbol b ≡ true → 0 < symbol_len (b ∷ bs)
symbol_front b [] e f = symbol_some b [] e f
symbol_front b (c ∷ bs) e f = symbol_some b (c ∷ bs) e f

-- a run that begins with its class
of_run : (k : Class) (t : TokenKind) (b : ℕ) (bs : List ℕ) → is_in k b ≡ true → IsWithin (length (b ∷ bs)) (Found t (run k (b ∷ bs)))
of_run k t b bs h = (run_some k b bs h, run_within k (b ∷ bs))

pub front_within : (b : ℕ) (bs : List ℕ) → IsWithin (length (b ∷ bs)) (front (b ∷ bs))
unfolding front
front_within b bs =
    let P = IsWithin (length (b ∷ bs)) in
    cond_both (is_in Blank b) _ _ P (λ e. (run_some Blank b bs e, run_within Blank (b ∷ bs))) (λ _.
    cond_both (nat_eq b 37) _ _ P (λ e. (run_some Line b bs (let x : b ≡ 37 = eqb-true b 37 e in rw x line_first), run_within Line (b ∷ bs))) (λ _.
    cond_both (nat_eq b 47 && nat_eq (slice_index (b ∷ bs) 1) 42) _ _ P (comment_front b bs) (λ no.
    cond_both (is_in Lower b) _ _ P (λ e. of_run Word kind.Lower b bs (lower_word b e)) (λ _.
    cond_both (is_in Upper b) _ _ P (λ e. of_run Word kind.Upper b bs (upper_word b e)) (λ _.
    cond_both (is_in Digit b) _ _ P (λ e. digits_within (run Digit (b ∷ bs)) (b ∷ bs) (run_some Digit b bs e) (run_within Digit (b ∷ bs))) (λ _.
    cond_both (nat_eq b 34) _ _ P (λ _. text_at_within (length bs) (text_end bs) bs (text_within bs)) (λ _.
    cond_both (is_in Symbol b) _ _ P (λ e. (symbol_front b bs no e, symbol_within (b ∷ bs))) (λ _.
    cond_both (is_in Alone b) (Found kind.Symbol 1) (mark_at b) P (λ _. (omega arith, omega arith)) (λ _. mark_within b (length (b ∷ bs)) (omega arith))))))))))
