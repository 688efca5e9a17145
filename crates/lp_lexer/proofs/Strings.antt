-- What the end of a string tells, in the words of what a string holds.
use Rattle.std.proofs.Common.{◌≡◌, ℕ, suc, zero, ◌+◌, ◌≤◌, List, [], ◌∷◌, ◌++◌, length, drop, take, Bool, true, false, ◌&&◌, nat_eq, refl, sym, ap, ◌∙◌, subst, arith, true≢false, ne_eqb, append_assoc}
use Rattle.std.specs.Prelude.{slice_index, not}
use Rattle.std.proofs.lemmas.Bool.{not-true, and_parts, and_left, and_right, eqb-true, cond_both}
use Rattle.std.proofs.lemmas.List.{take-append-drop, length-take-le, length-append}
use Rattle.lp_lexer.specs.declared.class.Class.TheVariants.{Escaped, Inside}
use Rattle.lp_lexer.specs.declared.token.Ended.{Ended}
use Rattle.lp_lexer.specs.declared.token.Ended.TheVariants.{Closed, BadAt, Open}
use Rattle.lp_lexer.specs.Bytes.{is_in}
use Rattle.lp_lexer.specs.Forms.{is_plain, Strung, none, plain, escape, IsString}
use Rattle.lp_lexer.specs.Front.{text_end, further, closes}
use Rattle.lp_lexer.specs.Stands.{Loose, none as nothing, escape as skipped, lone, other, IsClosed, IsBadIn}
use Rattle.lp_lexer.proofs.Steps.{text_cons, text_close, closes_quote, closes_escape, closes_by, zero_no_escape, drop_one}

line_outside : is_in Inside 10 ≡ false
unfolding is_in
line_outside = refl

quote_escaped : is_in Escaped 34 ≡ true
unfolding is_in
quote_escaped = refl

-- what a plain byte is not
pub record Plain (b : ℕ) : Type 0 where
  pub no_quote : nat_eq b 34 ≡ false
  pub no_slash : nat_eq b 92 ≡ false
  pub no_line : nat_eq b 10 ≡ false
  pub inside : is_in Inside b ≡ true

pub plain_is : (b : ℕ) → is_plain b ≡ true → Plain b
plain_is b h =
    let p = and_parts (not (nat_eq b 34)) (not (nat_eq b 92) && is_in Inside b) h in
    let q = and_parts (not (nat_eq b 92)) (is_in Inside b) p.1 in
    record {
      no_quote = not-true (nat_eq b 34) p.0;
      no_slash = not-true (nat_eq b 92) q.0;
      no_line = ne_eqb b 10 (λ e. true≢false (sym q.1 ∙ ap (is_in Inside) e ∙ line_outside));
      inside = q.1;
    }

-- what the end says of the bytes
abbrev pub Told : List ℕ → Ended → Type 0
Told bs (Closed n) = (held : List ℕ) × (take n bs ≡ held ++ 34 ∷ []) × Strung held
Told bs (BadAt n) = IsBadIn bs n × (closes bs ≡ closes (drop n bs))
Told bs Open = closes bs ≡ false

closes_plain : (b : ℕ) (bs : List ℕ) → is_plain b ≡ true → closes (b ∷ bs) ≡ closes bs
closes_plain b bs h = let p = plain_is b h in closes_by b bs p.no_quote p.no_line (and_left (nat_eq b 92) _ p.no_slash)

bad_on : (b : ℕ) (bs : List ℕ) (n : ℕ) → Strung (take (suc n) (b ∷ bs)) → IsBadIn bs n → IsBadIn (b ∷ bs) (suc n)
bad_on b bs n s h =
    let e : suc n + 1 ≡ suc (n + 1) = omega arith in
    record { within = omega (arith, h.within); strung = s; not_plain = h.not_plain; no_escape = rw e (h.no_escape); no_quote = h.no_quote; no_line = h.no_line }

grow_plain : (b : ℕ) (bs : List ℕ) (e : Ended) → is_plain b ≡ true → Told bs e → Told (b ∷ bs) (further 1 e)
grow_plain b bs (Closed n) p (held, f, s) =
    let one : 1 + n ≡ suc n = omega arith in
    rw one (b ∷ held, ap (λ l. b ∷ l) f, plain b held p s)
grow_plain b bs (BadAt n) p (h, c) =
    let one : 1 + n ≡ suc n = omega arith in
    rw one (bad_on b bs n (plain b _ p h.strung) h, closes_plain b bs p ∙ c)
grow_plain b bs Open p h = closes_plain b bs p ∙ h

bad_on_two : (b c : ℕ) (bs : List ℕ) (n : ℕ) → Strung (take (suc (suc n)) (b ∷ c ∷ bs)) → IsBadIn bs n → IsBadIn (b ∷ c ∷ bs) (suc (suc n))
bad_on_two b c bs n s h =
    let e : suc (suc n) + 1 ≡ suc (suc (n + 1)) = omega arith in
    record { within = omega (arith, h.within); strung = s; not_plain = h.not_plain; no_escape = rw e (h.no_escape); no_quote = h.no_quote; no_line = h.no_line }

grow_escape : (c : ℕ) (bs : List ℕ) (e : Ended) → is_in Escaped c ≡ true → Told bs e → Told (92 ∷ c ∷ bs) (further 2 e)
grow_escape c bs (Closed n) p (held, f, s) =
    let two : 2 + n ≡ suc (suc n) = omega arith in
    rw two (92 ∷ c ∷ held, ap (λ l. 92 ∷ c ∷ l) f, escape c held p s)
grow_escape c bs (BadAt n) p (h, g) =
    let two : 2 + n ≡ suc (suc n) = omega arith in
    rw two (bad_on_two 92 c bs n (escape c _ p h.strung) h, closes_escape c bs p ∙ g)
grow_escape c bs Open p h = closes_escape c bs p ∙ h

slash_not_plain : (b : ℕ) → nat_eq b 92 ≡ true → is_plain b ≡ false
slash_not_plain b e = let x : b ≡ 92 = eqb-true b 92 e in rw x refl

outside_not_plain : (b : ℕ) → is_in Inside b ≡ false → is_plain b ≡ false
outside_not_plain b e = and_right (not (nat_eq b 34)) _ (and_right (not (nat_eq b 92)) (is_in Inside b) e)

pub inside_plain : (b : ℕ) → nat_eq b 34 ≡ false → nat_eq b 92 ≡ false → is_in Inside b ≡ true → is_plain b ≡ true
inside_plain b e f g = rw (e, f, g) refl

bad_here : (b : ℕ) (bs : List ℕ) → is_plain b ≡ false → (nat_eq b 92 && is_in Escaped (slice_index bs 0)) ≡ false → nat_eq b 34 ≡ false → nat_eq b 10 ≡ false → Told (b ∷ bs) (BadAt 0)
bad_here b bs p e q l = (record { within = omega arith; strung = none; not_plain = p; no_escape = e; no_quote = q; no_line = l }, refl)

quoted : (b : ℕ) (bs : List ℕ) → nat_eq b 34 ≡ true → Told (b ∷ bs) (Closed 1)
quoted b bs e = ([], ap (λ x. x ∷ []) (eqb-true b 34 e), none)

pub told : (bs : List ℕ) → Told bs (text_end bs)
told [] = refl
told (b ∷ []) =
    let P : Ended → Type 0 = Told (b ∷ []) in
    cond_both (nat_eq b 34) _ _ P (quoted b []) (λ no.
    cond_both (nat_eq b 10) Open _ P (λ _. no) (λ line.
    cond_both (nat_eq b 92) (BadAt 0) _ P (λ e. bad_here b [] (slash_not_plain b e) (and_right (nat_eq b 92) _ zero_no_escape) no line) (λ slash.
    cond_both (is_in Inside b) Open (BadAt 0) P (λ _. no) (λ e. bad_here b [] (outside_not_plain b e) (and_left (nat_eq b 92) _ slash) no line))))
told (b ∷ c ∷ bs) =
    let P : Ended → Type 0 = Told (b ∷ c ∷ bs) in
    cond_both (nat_eq b 34) _ _ P (quoted b (c ∷ bs)) (λ no.
    cond_both (nat_eq b 10) Open _ P (λ e. rw (no, e) refl) (λ line.
    cond_both (nat_eq b 92) _ _ P (λ e. cond_both (is_in Escaped c) _ (BadAt 0) P (λ f. subst (λ x. Told (x ∷ c ∷ bs) (further 2 (text_end bs)))
    (sym (eqb-true b 92 e)) (grow_escape c bs (text_end bs) f (told bs))) (λ f. bad_here b (c ∷ bs) (slash_not_plain b e)
    (and_right (nat_eq b 92) _ f) no line)) (λ slash. cond_both (is_in Inside b) _ (BadAt 0) P
    (λ f. grow_plain b (c ∷ bs) (text_end (c ∷ bs)) (inside_plain b no slash f) (told (c ∷ bs)))
    (λ f. bad_here b (c ∷ bs) (outside_not_plain b f) (and_left (nat_eq b 92) _ slash) no line))))

-- what a string holds ends at the quote behind it
pub ends_strung : (held q : List ℕ) → Strung held → text_end (held ++ 34 ∷ q) ≡ Closed (suc (length held))
ends_strung _ q none = text_close q
ends_strung _ q (plain b bs p s) =
    let r = plain_is b p in
    let one : 1 + suc (length bs) ≡ suc (suc (length bs)) = omega arith in
    text_cons b (bs ++ 34 ∷ q) r.no_slash r.no_quote r.no_line ∙ (rw (r.inside, ends_strung bs q s) (ap Closed one))
ends_strung _ q (escape c bs e s) =
    let two : 2 + suc (length bs) ≡ suc (suc (suc (length bs))) = omega arith in
    rw (e, ends_strung bs q s) (ap Closed two)

-- so a text has no two strings at its front
pub string_is : (rest : List ℕ) (m : ℕ) → m ≤ length (34 ∷ rest) → IsString (take m (34 ∷ rest)) → (j : ℕ) × (text_end rest ≡ Closed j) × (m ≡ suc j)
string_is rest zero h (held, e, s) = absurd (cc)
string_is rest (suc m) h (held, e, s) =
    let f : take m rest ≡ held ++ 34 ∷ [] = cc in
    let g : rest ≡ held ++ 34 ∷ drop m rest = sym (take-append-drop m rest) ∙ ap (λ l. l ++ drop m rest) f ∙ append_assoc held (34 ∷ []) (drop m rest) in
    let l : m ≡ length held + 1 = sym (length-take-le m rest (omega (arith, h))) ∙ ap length f ∙ length-append held (34 ∷ []) in
    (suc (length held), ap text_end g ∙ ends_strung held (drop m rest) s, omega (arith, l))

-- a quote that closes the string on its line is found
closes_loose : (ps q : List ℕ) → Loose ps → closes (ps ++ 34 ∷ q) ≡ true
closes_loose _ q nothing = closes_quote q
closes_loose _ q (skipped c bs e s) = closes_escape c (bs ++ 34 ∷ q) e ∙ closes_loose bs q s
closes_loose _ q (lone c bs e s) = rw e (closes_loose (c ∷ bs) q s)
closes_loose _ q (other b bs e f g s) = closes_by b (bs ++ 34 ∷ q) e f (and_left (nat_eq b 92) _ g) ∙ closes_loose bs q s

pub closed_is : (rest : List ℕ) → IsClosed rest → closes rest ≡ true
closed_is rest (n, h, s, e) =
    let d : drop n rest ≡ 34 ∷ drop (n + 1) rest = drop_one rest n h ∙ ap (λ b. b ∷ drop (n + 1) rest) e in
    ap closes (sym (take-append-drop n rest) ∙ ap (λ l. take n rest ++ l) d) ∙ closes_loose (take n rest) (drop (n + 1) rest) s

abbrev Finds : List ℕ → Bool → Type 0
Finds bs t = t ≡ true → IsClosed bs

found_on : (b c : ℕ) (bs : List ℕ) → nat_eq b 34 ≡ false → nat_eq b 10 ≡ false → (nat_eq b 92 && is_in Escaped c) ≡ false → IsClosed (c ∷ bs) → IsClosed (b ∷ c ∷ bs)
found_on b c bs e f g (n, h, s, q) = (suc n, omega (arith, h), go (nat_eq b 92) refl n s q, q)
  where
    alone : (x : b ≡ 92) (k : ℕ) → is_in Escaped c ≡ false → Loose (take k (c ∷ bs)) → slice_index (c ∷ bs) k ≡ 34 → Loose (b ∷ take k (c ∷ bs))
    alone x zero i s q = absurd (true≢false (sym quote_escaped ∙ ap (is_in Escaped) (sym q) ∙ i))
    alone x (suc k) i s q = rw x (lone c (take k bs) i s)

    go : (t : Bool) → nat_eq b 92 ≡ t → (k : ℕ) → Loose (take k (c ∷ bs)) → slice_index (c ∷ bs) k ≡ 34 → Loose (b ∷ take k (c ∷ bs))
    go true x k s q = alone (eqb-true b 92 x) k (ap (λ t. t && is_in Escaped c) (sym x) ∙ g) s q
    go false x k s q = other b (take k (c ∷ bs)) e f x s

pub finds : (bs : List ℕ) → closes bs ≡ true → IsClosed bs
finds [] h = absurd (cc)
finds (b ∷ []) h = (0, omega arith, nothing, eqb-true b 34 h)
finds (b ∷ c ∷ bs) h =
    let P : Bool → Type 0 = Finds (b ∷ c ∷ bs) in
    cond_both (nat_eq b 34) true _ P (λ e _. (0, omega arith, nothing, eqb-true b 34 e)) (λ no.
    cond_both (nat_eq b 10) false _ P (λ _ k. absurd (cc)) (λ line.
    cond_both (nat_eq b 92 && is_in Escaped c) _ _ P (λ e k. escaped (and_parts _ _ e) (finds bs k)) (λ e k. found_on b c bs no line e (finds (c ∷ bs) k)))) h
  where
    escaped : (nat_eq b 92 ≡ true) × (is_in Escaped c ≡ true) → IsClosed bs → IsClosed (b ∷ c ∷ bs)
    escaped (x, e) (n, h, s, q) = (suc (suc n), omega (arith, h), rw (eqb-true b 92 x) (skipped c (take n bs) e s), q)
