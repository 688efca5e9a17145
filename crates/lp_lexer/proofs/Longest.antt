-- What the order of tests finds at the front is what the forms say that stands there.
use Rattle.std.proofs.Common.{◌≡◌, ℕ, suc, ◌+◌, ◌<◌, ◌≤◌, List, [], ◌∷◌, length, drop, take, true, false, ◌&&◌, nat_eq, refl, sym, ap, ◌∙◌, subst, arith, true≢false, inl, inr}
use Rattle.std.specs.Prelude.{slice_index}
use Rattle.std.proofs.lemmas.Bool.{and_parts, eqb-true, cond_both}
use Rattle.lp_lexer.specs.declared.class.Class.TheVariants.{Blank, Lower, Upper, Digit, Word, Symbol, Alone, Line}
use Rattle.lp_lexer.specs.declared.token.TokenKind.{TokenKind}
use Rattle.lp_lexer.specs.declared.token.TokenKind.TheVariants as kind
use Rattle.lp_lexer.specs.declared.token.Ended.{Ended}
use Rattle.lp_lexer.specs.declared.token.Ended.TheVariants.{Closed, BadAt, Open}
use Rattle.lp_lexer.specs.declared.token.Piece.{Piece}
use Rattle.lp_lexer.specs.declared.token.Piece.TheVariants.{Skip, Found, Bad, OpenText}
use Rattle.lp_lexer.specs.Bytes.{is_in, run}
use Rattle.lp_lexer.specs.Forms.{IsString, IsToken}
use Rattle.lp_lexer.specs.Front.{front, text_end, text_at, closes, mark_at, IsEndWithin}
use Rattle.lp_lexer.specs.Stands.{opens, Begins, HasNoToken, HasNoGap, IsBounded, IsClosed, IsStray, Stands}
use Rattle.lp_lexer.proofs.Digits.{digits_stand}
use Rattle.lp_lexer.proofs.Fronts.{shape_at, no_gap, name_stands, symbol_stands, one_stands}
use Rattle.lp_lexer.proofs.Gaps.{blanks_stand, line_stands, comments_stand}
use Rattle.lp_lexer.proofs.Leads.{Lead, nothing, blank, percent, lower, upper, digit, quote, symbol, alone, mark, lead, mark_lead, Shape, shape, gap_leads, of_lower, of_upper, of_digit, of_symbol, of_alone}
use Rattle.lp_lexer.proofs.Runs.{led_form}
use Rattle.lp_lexer.proofs.Steps.{lower_word, upper_word}
use Rattle.lp_lexer.proofs.Strings.{Told, told, string_is, closed_is, finds}
use Rattle.lp_lexer.proofs.Within.{text_within, symbol_front}

lead_quote : lead 34 ≡ quote
unfolding is_in lead
lead_quote = refl

-- a token behind a quote is the string that ends there
string_at : (rest : List ℕ) (k : TokenKind) (m : ℕ) → Begins (34 ∷ rest) k m → (k ≡ kind.Text) × ((j : ℕ) × (text_end rest ≡ Closed j) × (m ≡ suc j))
string_at rest k m h =
    let s = shape_at quote 34 rest k m lead_quote h in
    (s.0, string_is rest m h.within s.1)

no_string : (rest : List ℕ) (e : Ended) → text_end rest ≡ e → ((n : ℕ) → Closed n ≡ e → ⊥) → HasNoToken (34 ∷ rest)
no_string rest e f g k m h = let w = (string_at rest k m h).1 in g w.0 (sym w.1 ∙ f)

string_closed : (rest : List ℕ) (n : ℕ) → text_end rest ≡ Closed n → IsString (take (suc n) (34 ∷ rest)) → n ≤ length rest → HasNoGap (34 ∷ rest) → Stands (34 ∷ rest) (Found kind.Text (suc n))
string_closed rest n e form l gap = (
  record {
    begins = record { within = omega (arith, l); form = form; apart = λ s. absurd (cc) };
    longest = λ k m h. let w = (string_at rest k m h).1 in let x : w.0 ≡ n = let y : Closed w.0 ≡ Closed n = sym w.1 ∙ e in cc in omega (arith, w.2, x);
    only = λ k h. (string_at rest k (suc n) h).0;
  },
  (λ v s. absurd (cc)),
  gap,
)

never_closed : (rest : List ℕ) → closes rest ≡ false → IsClosed rest → ⊥
never_closed rest h c = true≢false (sym (closed_is rest c) ∙ h)

text_stands : (rest : List ℕ) (e : Ended) → text_end rest ≡ e → Told rest e → IsEndWithin (length rest) e → HasNoGap (34 ∷ rest) → Stands (34 ∷ rest) (text_at e rest)
text_stands rest (Closed n) f (held, g, s) l gap =
    let one : 1 + n ≡ suc n = omega arith in
    subst (λ i. Stands (34 ∷ rest) (Found kind.Text i)) (sym one) (string_closed rest n f (held, ap (λ x. 34 ∷ x) g, s) l gap)
text_stands rest (BadAt n) f (h, c) l gap =
    let no : HasNoToken (34 ∷ rest) = no_string rest (BadAt n) f (λ i x. absurd (cc)) in
    cond_both (closes (drop n rest)) (Bad (1 + n)) OpenText (Stands (34 ∷ rest)) (λ q. inr (n, refl, refl, h, finds rest (c ∙ q), no, gap)) (λ q. (refl, never_closed rest (c ∙ q), no, gap))
text_stands rest Open f h l gap = (refl, never_closed rest h, no_string rest Open f (λ i x. absurd (cc)), gap)

texts_stand : (b : ℕ) (t : List ℕ) → nat_eq b 34 ≡ true → HasNoGap (b ∷ t) → Stands (b ∷ t) (text_at (text_end t) t)
texts_stand b t e gap =
    let x = eqb-true b 34 e in
    subst (λ y. Stands (y ∷ t) (text_at (text_end t) t)) (sym x) (text_stands t (text_end t) refl (told t) (text_within t) (subst (λ y. HasNoGap (y ∷ t)) x gap))

names_lower : (b : ℕ) (t : List ℕ) → is_in Lower b ≡ true → HasNoGap (b ∷ t) → Stands (b ∷ t) (Found kind.Lower (run Word (b ∷ t)))
names_lower b t e gap = name_stands Lower kind.Lower lower b t (lower_word b e) (of_lower b e) (λ k bs s. s) (led_form Lower Word b t e (lower_word b e)) (λ s. absurd (cc)) (λ v s. absurd (cc)) gap

names_upper : (b : ℕ) (t : List ℕ) → is_in Upper b ≡ true → HasNoGap (b ∷ t) → Stands (b ∷ t) (Found kind.Upper (run Word (b ∷ t)))
names_upper b t e gap = name_stands Upper kind.Upper upper b t (upper_word b e) (of_upper b e) (λ k bs s. s) (led_form Upper Word b t e (upper_word b e)) (λ s. absurd (cc)) (λ v s. absurd (cc)) gap

alone_stands : (b : ℕ) (t : List ℕ) → is_in Alone b ≡ true → opens (b ∷ t) ≡ false → HasNoGap (b ∷ t) → Stands (b ∷ t) (Found kind.Symbol 1)
alone_stands b t e o gap = one_stands kind.Symbol alone b t (of_alone b e) (λ k bs s. s) (inr (b, refl, e)) o (λ v s. absurd (cc)) gap

-- a mark: its kind and its byte
mark_stands : (j : TokenKind) (x b : ℕ) (t : List ℕ) → lead x ≡ mark j → IsToken j (x ∷ []) → IsBounded j → opens (b ∷ t) ≡ false → HasNoGap (b ∷ t) → nat_eq b x ≡ true → Stands (b ∷ t) (Found j 1)
mark_stands j x b t l form bounded o gap e =
    let f = eqb-true b x e in
    one_stands j (mark j) b t (ap lead f ∙ l) (λ k bs s. s) (subst (λ y. IsToken j (y ∷ [])) (sym f) form) o bounded gap

lead_slash : lead 47 ≡ symbol
unfolding is_in lead
lead_slash = refl

-- no token, no blanks and no comment begin with a byte that begins nothing
stray : (b : ℕ) → lead b ≡ nothing → IsStray b
stray b e bs = (
  (λ k h. subst (λ l. Shape l k (b ∷ bs)) e (shape k b bs h)),
  (λ g. elim (gap_leads b bs g) [
    | inl x ↦ let y = sym e ∙ x in absurd (cc)
    | inr z ↦ elim z [
      | inl x ↦ let y = sym e ∙ x in absurd (cc)
      | inr o ↦ let y = sym e ∙ ap lead (eqb-true b 47 (and_parts (nat_eq b 47) _ o).0) ∙ lead_slash in absurd (cc)
    ]
  ]),
)

-- what a byte is that no test knows
pub record IsNone (b : ℕ) : Type 0 where
  pub lower : is_in Lower b ≡ false
  pub upper : is_in Upper b ≡ false
  pub digit : is_in Digit b ≡ false
  pub blank : is_in Blank b ≡ false
  pub percent : nat_eq b 37 ≡ false
  pub quote : nat_eq b 34 ≡ false
  pub symbol : is_in Symbol b ≡ false
  pub alone : is_in Alone b ≡ false

lead_rest : (b : ℕ) → IsNone b → lead b ≡ mark_lead b
unfolding lead
lead_rest b n = rw (n.lower, n.upper, n.digit, n.blank, n.percent, n.quote, n.symbol, n.alone) refl

no_mark_gap : (b : ℕ) → (mark_lead b ≡ blank → ⊥) × (mark_lead b ≡ percent → ⊥)
no_mark_gap b =
    let P : Lead → Type 0 = λ l. (l ≡ blank → ⊥) × (l ≡ percent → ⊥) in
    let on : (j : TokenKind) → P (mark j) = λ j. ((λ s. absurd (cc)), (λ s. absurd (cc))) in
    cond_both (nat_eq b 40) _ _ P (λ _. on _) (λ _. cond_both (nat_eq b 41) _ _ P (λ _. on _)
    (λ _. cond_both (nat_eq b 91) _ _ P (λ _. on _) (λ _. cond_both (nat_eq b 93) _ _ P (λ _. on _)
    (λ _. cond_both (nat_eq b 124) _ _ P (λ _. on _) (λ _. cond_both (nat_eq b 46) _ _ P (λ _. on _)
    (λ _. cond_both (nat_eq b 92) _ nothing P (λ _. on _) (λ _. ((λ s. absurd (cc)), (λ s. absurd (cc))))))))))

no_gap_at_mark : (b : ℕ) (t : List ℕ) → IsNone b → opens (b ∷ t) ≡ false → HasNoGap (b ∷ t)
no_gap_at_mark b t n o = no_gap (mark_lead b) b t (lead_rest b n) (no_mark_gap b).0 (no_mark_gap b).1 o

marks_stand : (b : ℕ) (t : List ℕ) → IsNone b → opens (b ∷ t) ≡ false → HasNoGap (b ∷ t) → Stands (b ∷ t) (mark_at b)
unfolding is_in lead
marks_stand b t n o gap =
    let P : Piece → Type 0 = Stands (b ∷ t) in
    let on : (j : TokenKind) (x : ℕ) → lead x ≡ mark j → IsToken j (x ∷ []) → IsBounded j → nat_eq b x ≡ true → P (Found j 1) = λ j x l f m e. mark_stands j x b t l f m o gap e in
    cond_both (nat_eq b 40) _ _ P (on kind.Open 40 refl refl (λ v s. absurd (cc))) (λ a.
    cond_both (nat_eq b 41) _ _ P (on kind.Close 41 refl refl (λ v s. absurd (cc))) (λ c.
    cond_both (nat_eq b 91) _ _ P (on kind.OpenList 91 refl refl (λ v s. absurd (cc))) (λ d.
    cond_both (nat_eq b 93) _ _ P (on kind.CloseList 93 refl refl (λ v s. absurd (cc))) (λ e.
    cond_both (nat_eq b 124) _ _ P (on kind.Bar 124 refl refl (λ v s. absurd (cc))) (λ f.
    cond_both (nat_eq b 46) _ _ P (on kind.Dot 46 refl refl (λ v s. absurd (cc))) (λ g.
    cond_both (nat_eq b 92) _ (Bad 0) P (on kind.Backslash 92 refl refl (λ v s. absurd (cc))) (λ h.
    inl (refl, stray b (lead_rest b n ∙ (rw (a, c, d, e, f, g, h) refl))))))))))

pub front_stands : (b : ℕ) (t : List ℕ) → Stands (b ∷ t) (front (b ∷ t))
unfolding front
front_stands b t =
    let P : Piece → Type 0 = Stands (b ∷ t) in
    cond_both (is_in Blank b) _ _ P (blanks_stand b t) (λ bla.
    cond_both (nat_eq b 37) _ _ P (λ e. subst (λ x. Stands (x ∷ t) (Skip (run Line (x ∷ t)))) (sym (eqb-true b 37 e)) (line_stands t)) (λ per.
    cond_both (nat_eq b 47 && nat_eq (slice_index (b ∷ t) 1) 42) _ _ P (comments_stand b t) (λ o.
    cond_both (is_in Lower b) _ _ P (λ e. names_lower b t e (no_gap lower b t (of_lower b e) (λ s. absurd (cc)) (λ s. absurd (cc)) o)) (λ low.
    cond_both (is_in Upper b) _ _ P (λ e. names_upper b t e (no_gap upper b t (of_upper b e) (λ s. absurd (cc)) (λ s. absurd (cc)) o)) (λ up.
    cond_both (is_in Digit b) _ _ P (λ e. digits_stand b t e (no_gap digit b t (of_digit b e) (λ s. absurd (cc)) (λ s. absurd (cc)) o)) (λ dig.
    cond_both (nat_eq b 34) _ _ P (λ e. texts_stand b t e (no_gap quote b t (ap lead (eqb-true b 34 e) ∙ lead_quote) (λ s. absurd (cc)) (λ s. absurd (cc)) o)) (λ quo.
    cond_both (is_in Symbol b) _ _ P (λ e. symbol_stands b t e (symbol_front b t o e) (no_gap symbol b t (of_symbol b e) (λ s. absurd (cc)) (λ s. absurd (cc)) o)) (λ sy.
    cond_both (is_in Alone b) _ (mark_at b) P (λ e. alone_stands b t e o (no_gap alone b t (of_alone b e) (λ s. absurd (cc)) (λ s. absurd (cc)) o)) (λ alo.
    let n : IsNone b = record { lower = low; upper = up; digit = dig; blank = bla; percent = per; quote = quo; symbol = sy; alone = alo } in
    marks_stand b t n o (no_gap_at_mark b t n o))))))))))

pub what_stands : (text : List ℕ) (p : Piece) → 0 < length text → front text ≡ p → Stands text p
what_stands [] p h e = absurd (omega (arith, h))
what_stands (b ∷ t) p h e = subst (Stands (b ∷ t)) e (front_stands b t)
