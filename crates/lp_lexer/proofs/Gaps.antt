-- Blanks and comments are the longest gap at their place, and no token begins there.
use Rattle.std.proofs.Common.{◌≡◌, ℕ, suc, zero, ◌+◌, ◌≤◌, List, [], ◌∷◌, ◌++◌, length, drop, take, Option, Some, None, true, false, nat_eq, refl, sym, ap, ◌∙◌, subst, arith, true≢false, inl, inr}
use Rattle.std.specs.Prelude.{IfSome}
use Rattle.std.proofs.lemmas.Bool.{and_parts, eqb-true}
use Rattle.std.proofs.lemmas.List.{take-append-drop, length-take-le}
use Rattle.lp_lexer.specs.declared.class.Class.TheVariants.{Blank, Line}
use Rattle.lp_lexer.specs.declared.token.Piece.TheVariants.{Skip}
use Rattle.lp_lexer.specs.Bytes.{is_in, run}
use Rattle.lp_lexer.specs.Comments.{Ends}
use Rattle.lp_lexer.specs.Forms.{are_in, is_led, IsGap, IsNested}
use Rattle.lp_lexer.specs.Front.{comment_len, comment_at}
use Rattle.lp_lexer.specs.Stands.{opens, Begins, HasNoToken, Stands}
use Rattle.lp_lexer.proofs.CommentForms.{ends_more, ends_less}
use Rattle.lp_lexer.proofs.Fronts.{shape_at, no_token}
use Rattle.lp_lexer.proofs.Leads.{Lead, blank, percent, symbol, lead, of_blank, Shape, no_empty_gap}
use Rattle.lp_lexer.proofs.Nesting.{closes_first, ends_found}
use Rattle.lp_lexer.proofs.Runs.{run_form, run_longest, led_form, led_longest}
use Rattle.lp_lexer.proofs.Steps.{line_first}
use Rattle.lp_lexer.proofs.Within.{run_within, comment_within}

lead_percent : lead 37 ≡ percent
unfolding is_in lead
lead_percent = refl

lead_slash : lead 47 ≡ symbol
unfolding is_in lead
lead_slash = refl

-- blanks
blanks_longest : (b : ℕ) (t : List ℕ) (m : ℕ) → is_in Blank b ≡ true → m ≤ length (b ∷ t) → IsGap (take m (b ∷ t)) → m ≤ run Blank (b ∷ t)
blanks_longest b t m e h (inl g) = led_longest Blank Blank b t m e h g
blanks_longest b t zero e h (inr g) = absurd (no_empty_gap (inr g))
blanks_longest b t (suc m) e h (inr (inl (rest, f, g))) =
    let x : b ≡ 37 = cc in
    let y : blank ≡ percent = sym (of_blank b e) ∙ ap lead x ∙ lead_percent in
    absurd (cc)
blanks_longest b t (suc m) e h (inr (inr (rest, f, g))) =
    let x : b ≡ 47 = cc in
    let y : blank ≡ symbol = sym (of_blank b e) ∙ ap lead x ∙ lead_slash in
    absurd (cc)

pub blanks_stand : (b : ℕ) (t : List ℕ) → is_in Blank b ≡ true → Stands (b ∷ t) (Skip (run Blank (b ∷ t)))
blanks_stand b t e = (
  record { within = run_within Blank (b ∷ t); form = inl (led_form Blank Blank b t e e); longest = λ m h g. blanks_longest b t m e h g },
  no_token blank b t (of_blank b e) (λ k bs s. s),
)

percent_no_symbol : (b : ℕ) → b ≡ 37 → b ≡ 47 → ⊥
percent_no_symbol b e f = let y : percent ≡ symbol = sym lead_percent ∙ ap lead (sym e ∙ f) ∙ lead_slash in absurd (cc)

no_blank : (b : ℕ) (l : Lead) (m : ℕ) (t : List ℕ) → lead b ≡ l → (blank ≡ l → ⊥) → is_led Blank Blank (take (suc m) (b ∷ t)) ≡ true → ⊥
no_blank b l m t e f g = f (sym (of_blank b (and_parts (is_in Blank b) (are_in Blank (take m t)) g).0) ∙ e)

-- the rest of a line
line_longest : (b : ℕ) (t : List ℕ) (m : ℕ) → b ≡ 37 → m ≤ length (b ∷ t) → IsGap (take m (b ∷ t)) → m ≤ suc (run Line t)
line_longest b t zero e h g = omega arith
line_longest b t (suc m) e h (inl g) = absurd (no_blank b percent m t (ap lead e ∙ lead_percent) (λ y. absurd (cc)) g)
line_longest b t (suc m) e h (inr (inl (rest, f, g))) =
    let x : take m t ≡ rest = cc in
    let l = run_longest Line t m (omega (arith, h)) (ap (are_in Line) x ∙ g) in
    omega (arith, l)
line_longest b t (suc m) e h (inr (inr (rest, f, g))) = absurd (percent_no_symbol b e (cc))

pub line_stands : (t : List ℕ) → Stands (37 ∷ t) (Skip (run Line (37 ∷ t)))
line_stands t =
    let one : run Line (37 ∷ t) ≡ suc (run Line t) = rw line_first refl in
    let w = run_within Line t in
    subst (λ n. Stands (37 ∷ t) (Skip n)) (sym one) (
      record { within = omega (arith, w); form = inr (inl (take (run Line t) t, refl, run_form Line t)); longest = λ m h g. line_longest 37 t m refl h g },
      no_token percent 37 t lead_percent (λ k bs s. s),
    )

-- comments of the second form
nested_len : (b c : ℕ) (t : List ℕ) (m : ℕ) → b ≡ 47 → m ≤ length (b ∷ c ∷ t) → IsGap (take m (b ∷ c ∷ t)) → (n : ℕ) × (comment_len 1 t ≡ Some n) × (m ≡ suc (suc n))
nested_len b c t zero e h g = absurd (no_empty_gap g)
nested_len b c t (suc m) e h (inl g) = absurd (no_blank b symbol m (c ∷ t) (ap lead e ∙ lead_slash) (λ y. absurd (cc)) g)
nested_len b c t (suc m) e h (inr (inl (rest, f, g))) = absurd (percent_no_symbol b (cc) e)
nested_len b c t (suc zero) e h (inr (inr (rest, f, g))) = absurd (cc)
nested_len b c t (suc (suc m)) e h (inr (inr (rest, f, g))) =
    let x : take m t ≡ rest = cc in
    let size : length rest ≡ m = sym (ap length x) ∙ length-take-le m t (omega (arith, h)) in
    let whole : rest ++ drop m t ≡ t = ap (λ l. l ++ drop m t) (sym x) ∙ take-append-drop m t in
    let ended : Ends (length rest) t = subst (Ends (length rest)) whole (ends_more (length rest) rest (drop m t) g) in
    (length rest, closes_first (length rest) t ended, omega (arith, size))

no_token_opens : (t : List ℕ) → HasNoToken (47 ∷ 42 ∷ t)
no_token_opens t k m h = go m h (shape_at symbol 47 (42 ∷ t) k m lead_slash h)
  where
    go : (m : ℕ) → Begins (47 ∷ 42 ∷ t) k m → Shape symbol k (take m (47 ∷ 42 ∷ t)) → ⊥
    go zero h s = let e = s.1 in absurd (cc)
    go (suc m) h s = true≢false (h.apart s.0 0 (omega arith))

comment_form : (t : List ℕ) (n : ℕ) → n ≤ length t → comment_len 1 t ≡ Some n → IsNested (take (suc (suc n)) (47 ∷ 42 ∷ t))
comment_form t n l e = (take n t, refl, subst (λ i. Ends i (take n t)) (sym (length-take-le n t l)) (ends_less n t (ends_found n t e)))

comment_stands : (t : List ℕ) (o : Option ℕ) → comment_len 1 t ≡ o → IfSome o (λ n. n ≤ length t) → Stands (47 ∷ 42 ∷ t) (comment_at o)
comment_stands t None e l = (
  refl,
  (λ n d. let x : None ≡ Some n = sym e ∙ closes_first n t d in absurd (cc)),
  no_token_opens t,
  (λ m h g. let w = nested_len 47 42 t m refl h g in let x : None ≡ Some w.0 = sym e ∙ w.1 in absurd (cc)),
)
comment_stands t (Some n) e l =
    let two : 2 + n ≡ suc (suc n) = omega arith in
    subst (λ i. Stands (47 ∷ 42 ∷ t) (Skip i)) (sym two) (
      record {
        within = omega (arith, l);
        form = inr (inr (comment_form t n l e));
        longest = λ m h g. let w = nested_len 47 42 t m refl h g in let x : n ≡ w.0 = let y : Some n ≡ Some w.0 = sym e ∙ w.1 in cc in omega (arith, w.2, x);
      },
      no_token_opens t,
    )

pub comments_stand : (b : ℕ) (t : List ℕ) → opens (b ∷ t) ≡ true → Stands (b ∷ t) (comment_at (comment_len 1 (drop 2 (b ∷ t))))
comments_stand b [] h = let p = (and_parts (nat_eq b 47) false h).1 in absurd (cc)
comments_stand b (c ∷ t) h =
    let p = and_parts (nat_eq b 47) (nat_eq c 42) h in
    subst (λ x. Stands (x ∷ c ∷ t) (comment_at (comment_len 1 t))) (sym (eqb-true b 47 p.0))
    (subst (λ x. Stands (47 ∷ x ∷ t) (comment_at (comment_len 1 t))) (sym (eqb-true c 42 p.1)) (comment_stands t (comment_len 1 t) refl (comment_within 1 t)))
