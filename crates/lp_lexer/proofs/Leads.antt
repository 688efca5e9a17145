-- The first byte of a token tells what kinds it can have: no two forms begin alike, but those of numbers and reals.
use Rattle.std.proofs.Common.{◌≡◌, ℕ, ◌<◌, ◌≤◌, List, [], ◌∷◌, length, Bool, true, false, nat_eq, refl, sym, ap, ◌∙◌, subst, arith, ne_eqb, inl, inr, codes}
use Rattle.std.specs.Prelude.{if◌then◌else◌, ◌⊎◌, pos, nat_le}
use Rattle.std.proofs.lemmas.Bool.{and_parts, and_left, and_right, or_cases, or_from, eqb-true, leb-true, lt-leb}
use Rattle.lp_lexer.specs.declared.class.Class.TheVariants.{Blank, Lower, Upper, Digit, Word, Symbol, Alone}
use Rattle.lp_lexer.specs.declared.token.TokenKind.{TokenKind}
use Rattle.lp_lexer.specs.declared.token.TokenKind.TheVariants as kind
use Rattle.lp_lexer.specs.Bytes.{is_in, is_one_of, between}
use Rattle.lp_lexer.specs.Forms.{is_led, IsReal, IsString, IsToken, IsGap}
use Rattle.lp_lexer.specs.Front.{decimal_from}
use Rattle.lp_lexer.specs.Stands.{opens}

-- what a byte begins
pub data Lead : Type 0 where
  nothing : Lead
  blank : Lead
  percent : Lead
  lower : Lead
  upper : Lead
  digit : Lead
  quote : Lead
  symbol : Lead
  alone : Lead
  mark : TokenKind → Lead

abbrev pub mark_lead : ℕ → Lead
mark_lead b =
    if nat_eq b 40 then mark kind.Open
    else (if nat_eq b 41 then mark kind.Close
    else (if nat_eq b 91 then mark kind.OpenList
    else (if nat_eq b 93 then mark kind.CloseList
    else (if nat_eq b 124 then mark kind.Bar
    else (if nat_eq b 46 then mark kind.Dot
    else (if nat_eq b 92 then mark kind.Backslash
    else nothing))))))

unfoldable pub lead : ℕ → Lead
lead b =
    if is_in Lower b then lower
    else (if is_in Upper b then upper
    else (if is_in Digit b then digit
    else (if is_in Blank b then blank
    else (if nat_eq b 37 then percent
    else (if nat_eq b 34 then quote
    else (if is_in Symbol b then symbol
    else (if is_in Alone b then alone
    else mark_lead b)))))))

-- each of these bytes begins this
abbrev Begin : Lead → List ℕ → Type 0
Begin l [] = Unit {0}
Begin l (x ∷ xs) = (lead x ≡ l) × Begin l xs

of_set : (l : Lead) (set : List ℕ) (b : ℕ) → Begin l set → is_one_of set b ≡ true → lead b ≡ l
of_set l [] b h e = absurd (cc)
of_set l (x ∷ xs) b (p, h) e = go (nat_eq x b) refl e (λ g. of_set l xs b h g)
  where
    go : (t : Bool) → nat_eq x b ≡ t → (if t then true else is_one_of xs b) ≡ true → (is_one_of xs b ≡ true → lead b ≡ l) → lead b ≡ l
    go true f g r = subst (λ y. lead y ≡ l) (eqb-true x b f) p
    go false f g r = r g

pub of_blank : (b : ℕ) → is_in Blank b ≡ true → lead b ≡ blank
unfolding is_in lead
of_blank b h = of_set blank (32 ∷ 9 ∷ 10 ∷ 13 ∷ []) b (refl, (refl, (refl, (refl, tt)))) h

pub of_symbol : (b : ℕ) → is_in Symbol b ≡ true → lead b ≡ symbol
unfolding is_in lead
of_symbol b h = of_set symbol (codes "+-*/^<>=~@#$&:") b (refl, (refl, (refl, (refl, (refl, (refl, (refl, (refl, (refl, (refl, (refl, (refl, (refl, (refl, tt)))))))))))))) h

pub of_alone : (b : ℕ) → is_in Alone b ≡ true → lead b ≡ alone
unfolding is_in lead
of_alone b h = of_set alone (codes ",;!") b (refl, (refl, (refl, tt))) h

pub of_lower : (b : ℕ) → is_in Lower b ≡ true → lead b ≡ lower
unfolding lead
of_lower b h = rw h refl

not_between : (low high b : ℕ) → (b < low) ⊎ (high < b) → between low high b ≡ false
not_between low high b (inl h) = and_left (nat_le low b) (nat_le b high) (lt-leb low b h)
not_between low high b (inr h) = and_right (nat_le low b) (nat_le b high) (lt-leb b high h)

bounds : (low high b : ℕ) → between low high b ≡ true → (low ≤ b) × (b ≤ high)
bounds low high b h = let p = and_parts (nat_le low b) (nat_le b high) h in (leb-true low b p.0, leb-true b high p.1)

upper_no_lower : (b : ℕ) → is_in Upper b ≡ true → is_in Lower b ≡ false
unfolding is_in
upper_no_lower b h = elim (or_cases (between 65 90 b) (nat_eq b 95) h) [
  | inl l ↦ let p = bounds 65 90 b l in not_between 97 122 b (inl (omega (arith, p.1)))
  | inr r ↦ let x : b ≡ 95 = eqb-true b 95 r in not_between 97 122 b (inl (omega (arith, x)))
]

pub of_upper : (b : ℕ) → is_in Upper b ≡ true → lead b ≡ upper
unfolding lead
of_upper b h = rw (upper_no_lower b h, h) refl

digit_no_lower : (b : ℕ) → is_in Digit b ≡ true → is_in Lower b ≡ false
unfolding is_in
digit_no_lower b h = let p = bounds 48 57 b h in not_between 97 122 b (inl (omega (arith, p.1)))

digit_no_upper : (b : ℕ) → is_in Digit b ≡ true → is_in Upper b ≡ false
unfolding is_in
digit_no_upper b h =
    let p = bounds 48 57 b h in
    or_from (between 65 90 b) (nat_eq b 95) (not_between 65 90 b (inl (omega (arith, p.1)))) (ne_eqb b 95 (λ e. omega (arith, p.1, e)))

pub of_digit : (b : ℕ) → is_in Digit b ≡ true → lead b ≡ digit
unfolding lead
of_digit b h = rw (digit_no_lower b h, digit_no_upper b h, h) refl

-- what a token is that begins with such a byte
abbrev pub Shape : Lead → TokenKind → List ℕ → Type 0
Shape lower k bs = (k ≡ kind.Lower) × (is_led Lower Word bs ≡ true)
Shape upper k bs = (k ≡ kind.Upper) × (is_led Upper Word bs ≡ true)
Shape digit k bs = ((k ≡ kind.Number (pos (decimal_from 0 bs))) × (is_led Digit Digit bs ≡ true)) ⊎ ((k ≡ kind.Real) × IsReal bs)
Shape quote k bs = (k ≡ kind.Text) × IsString bs
Shape symbol k bs = (k ≡ kind.Symbol) × (is_led Symbol Symbol bs ≡ true)
Shape alone k bs = (k ≡ kind.Symbol) × (length bs ≡ 1)
Shape (mark j) k bs = (k ≡ j) × (length bs ≡ 1)
Shape nothing k bs = ⊥
Shape blank k bs = ⊥
Shape percent k bs = ⊥

shaped : (l : Lead) (k : TokenKind) (b : ℕ) (bs : List ℕ) → lead b ≡ l → Shape l k (b ∷ bs) → Shape (lead b) k (b ∷ bs)
shaped l k b bs e s = subst (λ x. Shape x k (b ∷ bs)) (sym e) s

marked : (j : TokenKind) (x b : ℕ) (bs : List ℕ) → lead x ≡ mark j → b ∷ bs ≡ x ∷ [] → Shape (lead b) j (b ∷ bs)
marked j x b bs e h =
    let f : b ≡ x = cc in
    let g : bs ≡ [] = cc in
    shaped (mark j) j b bs (ap lead f ∙ e) (refl, rw g refl)

pub shape : (k : TokenKind) (b : ℕ) (bs : List ℕ) → IsToken k (b ∷ bs) → Shape (lead b) k (b ∷ bs)
unfolding is_in lead
shape kind.Lower b bs h = shaped lower _ b bs (of_lower b (and_parts _ _ h).0) (refl, h)
shape kind.Upper b bs h = shaped upper _ b bs (of_upper b (and_parts _ _ h).0) (refl, h)
shape kind.Symbol b bs (inl h) = shaped symbol _ b bs (of_symbol b (and_parts _ _ h).0) (refl, h)
shape kind.Symbol b bs (inr (x, e, h)) =
    let f : b ≡ x = cc in
    let g : bs ≡ [] = cc in
    shaped alone _ b bs (ap lead f ∙ of_alone x h) (refl, rw g refl)
shape (kind.Number v) b bs (h, e) = shaped digit _ b bs (of_digit b (and_parts _ _ h).0) (inl (ap kind.Number e, h))
shape kind.Real b bs ([], part, e, h, g) = absurd (cc)
shape kind.Real b bs (w ∷ ws, part, e, h, g) =
    let f : b ≡ w = cc in
    shaped digit _ b bs (ap lead f ∙ of_digit w (and_parts _ _ h).0) (inr (refl, (w ∷ ws, part, e, h, g)))
shape kind.Text b bs (held, e, s) = let f : b ≡ 34 = cc in shaped quote _ b bs (ap lead f) (refl, (held, e, s))
shape kind.Open b bs h = marked _ 40 b bs refl h
shape kind.Close b bs h = marked _ 41 b bs refl h
shape kind.OpenList b bs h = marked _ 91 b bs refl h
shape kind.CloseList b bs h = marked _ 93 b bs refl h
shape kind.Bar b bs h = marked _ 124 b bs refl h
shape kind.Dot b bs h = marked _ 46 b bs refl h
shape kind.Backslash b bs h = marked _ 92 b bs refl h

-- a token has a byte
pub no_empty : (k : TokenKind) → IsToken k [] → ⊥
no_empty kind.Lower h = absurd (cc)
no_empty kind.Upper h = absurd (cc)
no_empty kind.Symbol (inl h) = absurd (cc)
no_empty kind.Symbol (inr (x, e, h)) = absurd (cc)
no_empty (kind.Number v) (h, e) = absurd (cc)
no_empty kind.Real ([], part, e, h, g) = absurd (cc)
no_empty kind.Real (w ∷ ws, part, e, h, g) = absurd (cc)
no_empty kind.Text (held, e, s) = absurd (cc)
no_empty kind.Open h = absurd (cc)
no_empty kind.Close h = absurd (cc)
no_empty kind.OpenList h = absurd (cc)
no_empty kind.CloseList h = absurd (cc)
no_empty kind.Bar h = absurd (cc)
no_empty kind.Dot h = absurd (cc)
no_empty kind.Backslash h = absurd (cc)

-- and so what stands between tokens
pub gap_leads : (b : ℕ) (bs : List ℕ) → IsGap (b ∷ bs) → (lead b ≡ blank) ⊎ ((lead b ≡ percent) ⊎ (opens (b ∷ bs) ≡ true))
unfolding is_in lead
gap_leads b bs (inl h) = inl (of_blank b (and_parts _ _ h).0)
gap_leads b bs (inr (inl (rest, e, h))) = let f : b ≡ 37 = cc in inr (inl (ap lead f))
gap_leads b bs (inr (inr (rest, e, h))) = inr (inr (ap opens e))

pub no_empty_gap : IsGap [] → ⊥
no_empty_gap (inl h) = absurd (cc)
no_empty_gap (inr (inl (rest, e, h))) = absurd (cc)
no_empty_gap (inr (inr (rest, e, h))) = absurd (cc)
