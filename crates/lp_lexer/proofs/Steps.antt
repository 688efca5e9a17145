-- One step of each loop over a text.
use Rattle.std.proofs.Common.{◌≡◌, ℕ, suc, ◌+◌, ◌-◌, ◌*◌, ◌^◌, ◌<◌, ◌≤◌, zero, List, [], ◌∷◌, Option, Some, None, Bool, true, false, ◌&&◌, nat_eq, refl, sym, ap, ◌∙◌, ◌||◌, arith, length, get_or, drop, drop-cons, length-drop, get_or-drop, add_assoc, ne_eqb, le-ltb, inl, inr}
use Rattle.std.specs.Prelude.{if◌then◌else◌, ◌⊎◌, All, IsTrue, take}
use Rattle.std.proofs.lemmas.List.Elements.{All-push, All-get_or}
use Rattle.std.proofs.Common.{◌++◌}
use Rattle.std.proofs.lemmas.Bool.{and_left, and_right, and_parts, or_cases, leb-true, eqb-true}
use Rattle.lp_lexer.specs.declared.class.Class.TheVariants.{Escaped, Inside, Digit, Lower, Upper, Word, Line}
use Rattle.lp_lexer.specs.declared.token.Ended.{Ended}
use Rattle.lp_lexer.specs.declared.token.Ended.TheVariants.{Closed, BadAt, Open}
use Rattle.lp_lexer.specs.declared.token.Piece.TheVariants.{BigNumber}
use Rattle.lp_lexer.specs.declared.class.Class.{Class}
use Rattle.lp_lexer.specs.Bytes.{is_in, run, between}
use Rattle.lp_lexer.specs.Front.{comment_len, later, text_end, closes, further, decimal_from, number_of}

pub drop_one : (bs : List ℕ) (n : ℕ) → n < length bs → drop n bs ≡ get_or bs n 0 ∷ drop (n + 1) bs
drop_one bs n h = let e : n + 1 ≡ suc n = omega arith in drop-cons bs n 0 h ∙ ap (λ k. get_or bs n 0 ∷ drop k bs) (sym e)

pub drop_two : (bs : List ℕ) (n : ℕ) → n + 1 < length bs → drop n bs ≡ get_or bs n 0 ∷ (get_or bs (n + 1) 0 ∷ drop (n + 2) bs)
drop_two bs n h = let e : n + 1 + 1 ≡ n + 2 = omega arith in drop_one bs n (omega arith) ∙ ap (λ l. get_or bs n 0 ∷ l) (drop_one bs (n + 1) h ∙ ap (λ k. get_or bs (n + 1) 0 ∷ drop k bs) e)

pub later_later : (a b : ℕ) (o : Option ℕ) → later a (later b o) ≡ later (a + b) o
later_later a b None = refl
later_later a b (Some n) = ap Some (sym (add_assoc a b n))

pub further_further : (a b : ℕ) (e : Ended) → further a (further b e) ≡ further (a + b) e
further_further a b (Closed n) = ap Closed (sym (add_assoc a b n))
further_further a b (BadAt n) = ap BadAt (sym (add_assoc a b n))
further_further a b Open = refl

pub comment_opens : (bs : List ℕ) (n d : ℕ) → n + 1 < length bs → get_or bs n 0 ≡ 47 → get_or bs (n + 1) 0 ≡ 42 → later n (comment_len d (drop n bs)) ≡ later (n + 2) (comment_len (d + 1) (drop (n + 2) bs))
comment_opens bs n d h e f = let g : d + 1 ≡ suc d = omega arith in rw (drop_two bs n h, e, f, g) (later_later n 2 _)

pub comment_nests : (bs : List ℕ) (n d : ℕ) → n + 1 < length bs → get_or bs n 0 ≡ 42 → get_or bs (n + 1) 0 ≡ 47 → (d ≡ 1 → ⊥) → later n (comment_len d (drop n bs)) ≡ later (n + 2) (comment_len (d - 1) (drop (n + 2) bs))
comment_nests bs n d h e f g = rw (drop_two bs n h, e, f, ne_eqb d 1 g) (later_later n 2 _)

pub comment_closes : (bs : List ℕ) (n : ℕ) → n + 1 < length bs → get_or bs n 0 ≡ 42 → get_or bs (n + 1) 0 ≡ 47 → later n (comment_len 1 (drop n bs)) ≡ Some (n + 2)
comment_closes bs n h e f = rw (drop_two bs n h, e, f) refl

pub comment_by : (d b c : ℕ) (bs : List ℕ) → (nat_eq b 47 && nat_eq c 42) ≡ false → (nat_eq b 42 && nat_eq c 47) ≡ false → comment_len d (b ∷ c ∷ bs) ≡ later 1 (comment_len d (c ∷ bs))
comment_by d b c bs e f = rw (e, f) refl

pub comment_goes : (bs : List ℕ) (n d : ℕ) → n + 1 < length bs → (nat_eq (get_or bs n 0) 47 && nat_eq (get_or bs (n + 1) 0) 42) ≡ false → (nat_eq (get_or bs n 0) 42 && nat_eq (get_or bs (n + 1) 0) 47) ≡ false → later n (comment_len d (drop n bs)) ≡ later (n + 1) (comment_len d (drop (n + 1) bs))
comment_goes bs n d h e f =
    let g : n + 1 + 1 ≡ n + 2 = omega arith in
    let one : drop (n + 1) bs ≡ get_or bs (n + 1) 0 ∷ drop (n + 2) bs = drop_one bs (n + 1) h ∙ ap (λ k. get_or bs (n + 1) 0 ∷ drop k bs) g in
    ap (λ l. later n (comment_len d l)) (drop_two bs n h) ∙ ap (later n) (comment_by d (get_or bs n 0) (get_or bs (n + 1) 0) (drop (n + 2) bs) e f) ∙ later_later n 1 (comment_len d (get_or bs (n + 1) 0 ∷ drop (n + 2) bs)) ∙ ap (λ l. later (n + 1) (comment_len d l)) (sym one)

comment_short : (d : ℕ) (bs : List ℕ) → length bs ≤ 1 → comment_len d bs ≡ None
comment_short d [] h = refl
comment_short d (b ∷ []) h = refl
comment_short d (b ∷ c ∷ bs) h = absurd (omega arith)

pub comment_done : (bs : List ℕ) (n d : ℕ) → length bs ≤ n + 1 → later n (comment_len d (drop n bs)) ≡ None
comment_done bs n d h = ap (later n) (comment_short d (drop n bs) (omega (arith, length-drop n bs)))

pub text_cons : (b : ℕ) (bs : List ℕ) → nat_eq b 92 ≡ false → nat_eq b 34 ≡ false → nat_eq b 10 ≡ false → text_end (b ∷ bs) ≡ (if is_in Inside b then further 1 (text_end bs) else BadAt 0)
text_cons b [] e f g = rw (e, f, g) refl
text_cons b (c ∷ bs) e f g = rw (e, f, g) refl

pub text_close : (bs : List ℕ) → text_end (34 ∷ bs) ≡ Closed 1
text_close [] = refl
text_close (c ∷ bs) = refl

text_line : (bs : List ℕ) → text_end (10 ∷ bs) ≡ Open
text_line [] = refl
text_line (c ∷ bs) = refl

pub text_closes : (bs : List ℕ) (n : ℕ) → n < length bs → get_or bs n 0 ≡ 34 → further n (text_end (drop n bs)) ≡ Closed (n + 1)
text_closes bs n h e = rw (drop_one bs n h, e, text_close (drop (n + 1) bs)) refl

pub text_lines : (bs : List ℕ) (n : ℕ) → n < length bs → get_or bs n 0 ≡ 10 → further n (text_end (drop n bs)) ≡ Open
text_lines bs n h e = rw (drop_one bs n h, e, text_line (drop (n + 1) bs)) refl

pub text_escapes : (bs : List ℕ) (n : ℕ) → n + 1 < length bs → get_or bs n 0 ≡ 92 → is_in Escaped (get_or bs (n + 1) 0) ≡ true → further n (text_end (drop n bs)) ≡ further (n + 2) (text_end (drop (n + 2) bs))
text_escapes bs n h e f = rw (drop_two bs n h, e, f) (further_further n 2 _)

pub text_goes : (bs : List ℕ) (n : ℕ) → n < length bs → (get_or bs n 0 ≡ 34 → ⊥) → (get_or bs n 0 ≡ 10 → ⊥) → (get_or bs n 0 ≡ 92 → ⊥) → is_in Inside (get_or bs n 0) ≡ true → further n (text_end (drop n bs)) ≡ further (n + 1) (text_end (drop (n + 1) bs))
text_goes bs n h e f g i = rw (drop_one bs n h, text_cons _ (drop (n + 1) bs) (ne_eqb _ 92 g) (ne_eqb _ 34 e) (ne_eqb _ 10 f), i) (further_further n 1 _)

pub text_bad : (bs : List ℕ) (n : ℕ) → n < length bs → (get_or bs n 0 ≡ 34 → ⊥) → (get_or bs n 0 ≡ 10 → ⊥) → (get_or bs n 0 ≡ 92 → ⊥) → is_in Inside (get_or bs n 0) ≡ false → further n (text_end (drop n bs)) ≡ BadAt n
text_bad bs n h e f g i = let z : n + 0 ≡ n = omega arith in rw (drop_one bs n h, text_cons _ (drop (n + 1) bs) (ne_eqb _ 92 g) (ne_eqb _ 34 e) (ne_eqb _ 10 f), i, z) refl

pub decimal_grows : (n : ℕ) (ds : List ℕ) → n ≤ decimal_from n ds
decimal_grows n [] = omega arith
decimal_grows n (d ∷ ds) = let h = decimal_grows (n * 10 + (d - 48)) ds in omega arith

pub not_both : (b c x y : ℕ) → ((b ≡ x) × (c ≡ y → ⊥)) ⊎ (b ≡ x → ⊥) → (nat_eq b x && nat_eq c y) ≡ false
not_both b c x y h = elim h [ inl p ↦ and_right (nat_eq b x) (nat_eq c y) (ne_eqb c y p.1) | inr p ↦ and_left (nat_eq b x) (nat_eq c y) (ne_eqb b x p) ]

number_big : (len n : ℕ) → 2 ^ 63 ≤ n → BigNumber ≡ number_of len n
number_big len n h = rw (le-ltb n (2 ^ 63) h) refl

pub number_passed : (ds : List ℕ) (i v n : ℕ) → i < length ds → decimal_from v (drop i ds) ≡ n → 2 ^ 63 ≤ v * 10 + (get_or ds i 0 - 48) → BigNumber ≡ number_of (length ds) n
number_passed ds i v n h e big =
    let f = ap (decimal_from v) (drop_one ds i h) in
    let g = decimal_grows (v * 10 + (get_or ds i 0 - 48)) (drop (i + 1) ds) in
    number_big (length ds) n (omega (arith, e, f, g, big))

pub run_goes : (k : Class) (bs : List ℕ) (n : ℕ) → n < length bs → is_in k (get_or bs n 0) ≡ true → n + run k (drop n bs) ≡ n + 1 + run k (drop (n + 1) bs)
run_goes k bs n h e = rw (drop_one bs n h, e) (omega arith)

pub take_one : (bs : List ℕ) (n : ℕ) → n < length bs → take (n + 1) bs ≡ take n bs ++ get_or bs n 0 ∷ []
take_one [] n h = absurd (omega arith)
take_one (b ∷ bs) zero h = refl
take_one (b ∷ bs) (suc n) h = let e : suc n + 1 ≡ suc (n + 1) = omega arith in rw e (ap (λ l. b ∷ l) (take_one bs n (omega arith)))

pub each_more : (k : Class) (bs : List ℕ) (n : ℕ) → n < length bs → All (λ b. IsTrue (is_in k b)) (take n bs) → is_in k (get_or bs n 0) ≡ true → All (λ b. IsTrue (is_in k b)) (take (n + 1) bs)
each_more k bs n h all e = rw (take_one bs n h) (All-push (λ b. IsTrue (is_in k b)) (take n bs) (get_or bs n 0) all e)

pub digit_low : (b : ℕ) → is_in Digit b ≡ true → 48 ≤ b
unfolding is_in
digit_low b h = leb-true 48 b (and_parts _ _ h).0

pub digits_low : (ds : List ℕ) (i : ℕ) → All (λ d. IsTrue (is_in Digit d)) ds → i < length ds → 48 ≤ get_or ds i 0
digits_low ds i all h = digit_low _ (All-get_or (λ d. IsTrue (is_in Digit d)) ds i 0 h all)

pub closes_quote : (bs : List ℕ) → closes (34 ∷ bs) ≡ true
closes_quote [] = refl
closes_quote (c ∷ bs) = refl

closes_line : (bs : List ℕ) → closes (10 ∷ bs) ≡ false
closes_line [] = refl
closes_line (c ∷ bs) = refl

pub closes_at_quote : (bs : List ℕ) (n : ℕ) → n < length bs → get_or bs n 0 ≡ 34 → closes (drop n bs) ≡ true
closes_at_quote bs n h e = rw (drop_one bs n h, e) (closes_quote (drop (n + 1) bs))

pub closes_at_line : (bs : List ℕ) (n : ℕ) → n < length bs → get_or bs n 0 ≡ 10 → closes (drop n bs) ≡ false
closes_at_line bs n h e = rw (drop_one bs n h, e) (closes_line (drop (n + 1) bs))

pub closes_escape : (c : ℕ) (bs : List ℕ) → is_in Escaped c ≡ true → closes (92 ∷ c ∷ bs) ≡ closes bs
closes_escape c bs e = rw e refl

pub closes_at_escape : (bs : List ℕ) (n : ℕ) → n + 1 < length bs → (nat_eq (get_or bs n 0) 92 && is_in Escaped (get_or bs (n + 1) 0)) ≡ true → closes (drop n bs) ≡ closes (drop (n + 2) bs)
closes_at_escape bs n h e =
    let p = and_parts _ _ e in
    let q : get_or bs n 0 ≡ 92 = eqb-true (get_or bs n 0) 92 p.0 in
    rw (drop_two bs n h, q) (closes_escape _ (drop (n + 2) bs) p.1)

pub closes_by : (b : ℕ) (bs : List ℕ) → nat_eq b 34 ≡ false → nat_eq b 10 ≡ false → (nat_eq b 92 && is_in Escaped (get_or bs 0 0)) ≡ false → closes (b ∷ bs) ≡ closes bs
closes_by b [] e f g = e
closes_by b (c ∷ bs) e f g = rw (e, f, g) refl

pub closes_at : (bs : List ℕ) (n : ℕ) → n < length bs → (get_or bs n 0 ≡ 34 → ⊥) → (get_or bs n 0 ≡ 10 → ⊥) → (nat_eq (get_or bs n 0) 92 && is_in Escaped (get_or bs (n + 1) 0)) ≡ false → closes (drop n bs) ≡ closes (drop (n + 1) bs)
closes_at bs n h e f g =
    let z : n + 1 + 0 ≡ n + 1 = omega arith in
    rw (drop_one bs n h) (closes_by _ (drop (n + 1) bs) (ne_eqb _ 34 e) (ne_eqb _ 10 f) (rw (get_or-drop (n + 1) bs 0 0, z) g))

past_zero : (bs : List ℕ) (i : ℕ) → length bs ≤ i → get_or bs i 0 ≡ 0
past_zero [] i h = refl
past_zero (b ∷ bs) zero h = absurd (omega arith)
past_zero (b ∷ bs) (suc i) h = past_zero bs i (omega arith)

pub zero_no_escape : is_in Escaped 0 ≡ false
unfolding is_in
zero_no_escape = refl

pub no_escape_past : (bs : List ℕ) (i : ℕ) → length bs ≤ i → is_in Escaped (get_or bs i 0) ≡ false
no_escape_past bs i h = ap (is_in Escaped) (past_zero bs i h) ∙ zero_no_escape

pub zero_no_digit : is_in Digit 0 ≡ false
unfolding is_in
zero_no_digit = refl

pub no_digit_past : (bs : List ℕ) (i : ℕ) → length bs ≤ i → is_in Digit (get_or bs i 0) ≡ false
no_digit_past bs i h = ap (is_in Digit) (past_zero bs i h) ∙ zero_no_digit

pub further_zero : (e : Ended) → further 0 e ≡ e
further_zero (Closed n) = let z : 0 + n ≡ n = omega arith in ap Closed z
further_zero (BadAt n) = let z : 0 + n ≡ n = omega arith in ap BadAt z
further_zero Open = refl

pub line_first : is_in Line 37 ≡ true
unfolding is_in
line_first = refl

pub lower_word : (b : ℕ) → is_in Lower b ≡ true → is_in Word b ≡ true
unfolding is_in
lower_word b h = rw h refl

pub upper_word : (b : ℕ) → is_in Upper b ≡ true → is_in Word b ≡ true
unfolding is_in
upper_word b h = elim (or_cases (between 65 90 b) (nat_eq b 95) h) [ inl l ↦ go l (between 97 122 b) | inr r ↦ on r (between 97 122 b) (between 65 90 b) ]
  where
    go : between 65 90 b ≡ true → (t : Bool) → (t || between 65 90 b || nat_eq b 95 || between 48 57 b || nat_eq b 39 || nat_eq b 63) ≡ true
    go l true = refl
    go l false = rw l refl

    on : nat_eq b 95 ≡ true → (t u : Bool) → (t || u || nat_eq b 95 || between 48 57 b || nat_eq b 39 || nat_eq b 63) ≡ true
    on r true u = refl
    on r false true = refl
    on r false false = rw r refl
