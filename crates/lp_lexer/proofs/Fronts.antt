-- What the first byte rules out, and the classes that are runs: names, symbols, bytes that stand alone.
use Rattle.std.proofs.Common.{◌≡◌, ℕ, suc, zero, ◌<◌, ◌≤◌, List, [], ◌∷◌, length, drop, take, true, false, nat_eq, sym, ◌∙◌, subst, arith, true≢false, inl, inr}
use Rattle.std.proofs.lemmas.Bool.{and_parts}
use Rattle.std.proofs.lemmas.List.{length-take-le}
use Rattle.lp_lexer.specs.declared.class.Class.{Class}
use Rattle.lp_lexer.specs.declared.class.Class.TheVariants.{Word, Symbol}
use Rattle.lp_lexer.specs.declared.token.TokenKind.{TokenKind}
use Rattle.lp_lexer.specs.declared.token.TokenKind.TheVariants as kind
use Rattle.lp_lexer.specs.declared.token.Piece.TheVariants.{Found}
use Rattle.lp_lexer.specs.Bytes.{is_in, run}
use Rattle.lp_lexer.specs.Forms.{is_led, IsToken}
use Rattle.lp_lexer.specs.Front.{symbol_len}
use Rattle.lp_lexer.specs.Stands.{opens, Begins, HasNoToken, HasNoGap, IsBounded, Stands}
use Rattle.lp_lexer.proofs.Leads.{Lead, blank, percent, symbol, lead, Shape, shape, no_empty, gap_leads, no_empty_gap, of_symbol}
use Rattle.lp_lexer.proofs.Runs.{led_longest, led_are, symbol_led, symbol_apart, symbol_longest}
use Rattle.lp_lexer.proofs.Within.{run_within, symbol_within}

at_front : (b : ℕ) (t : List ℕ) (k : TokenKind) (m : ℕ) → Begins (b ∷ t) k m → Shape (lead b) k (take m (b ∷ t))
at_front b t k zero h = absurd (no_empty k h.form)
at_front b t k (suc m) h = shape k b (take m t) h.form

pub shape_at : (l : Lead) (b : ℕ) (t : List ℕ) (k : TokenKind) (m : ℕ) → lead b ≡ l → Begins (b ∷ t) k m → Shape l k (take m (b ∷ t))
shape_at l b t k m e h = subst (λ x. Shape x k (take m (b ∷ t))) e (at_front b t k m h)

pub no_token : (l : Lead) (b : ℕ) (t : List ℕ) → lead b ≡ l → ((k : TokenKind) (bs : List ℕ) → Shape l k bs → ⊥) → HasNoToken (b ∷ t)
no_token l b t e f k m h = f k (take m (b ∷ t)) (shape_at l b t k m e h)

opens_on : (b : ℕ) (t : List ℕ) (m : ℕ) → opens (b ∷ take m t) ≡ true → opens (b ∷ t) ≡ true
opens_on b t zero x = absurd (true≢false (sym (and_parts (nat_eq b 47) false x).1))
opens_on b [] (suc m) x = x
opens_on b (c ∷ t) (suc m) x = x

-- where a byte begins neither blanks nor a comment
pub no_gap : (l : Lead) (b : ℕ) (t : List ℕ) → lead b ≡ l → (l ≡ blank → ⊥) → (l ≡ percent → ⊥) → opens (b ∷ t) ≡ false → HasNoGap (b ∷ t)
no_gap l b t e f g o zero h w = no_empty_gap w
no_gap l b t e f g o (suc m) h w = elim (gap_leads b (take m t) w) [
  | inl x ↦ f (sym e ∙ x)
  | inr y ↦ elim y [ inl x ↦ g (sym e ∙ x) | inr x ↦ true≢false (sym (opens_on b t m x) ∙ o) ]
]

-- a name: its class, its kind and what its first byte begins
pub name_stands : (c : Class) (j : TokenKind) (l : Lead) (b : ℕ) (t : List ℕ) → is_in Word b ≡ true → lead b ≡ l →
    ((k : TokenKind) (bs : List ℕ) → Shape l k bs → (k ≡ j) × (is_led c Word bs ≡ true)) → IsToken j (take (run Word (b ∷ t)) (b ∷ t)) →
    (j ≡ kind.Symbol → ⊥) → IsBounded j → HasNoGap (b ∷ t) → Stands (b ∷ t) (Found j (run Word (b ∷ t)))
name_stands c j l b t w e f form ns bounded gap = (
  record {
    begins = record { within = run_within Word (b ∷ t); form = form; apart = λ s. absurd (ns s) };
    longest = λ k m h. led_longest c Word b t m w h.within (f k _ (shape_at l b t k m e h)).1;
    only = λ k h. (f k _ (shape_at l b t k (run Word (b ∷ t)) e h)).0;
  },
  bounded,
  gap,
)

no_number : IsBounded kind.Symbol
no_number w e = absurd (cc)

pub symbol_stands : (b : ℕ) (t : List ℕ) → is_in Symbol b ≡ true → 0 < symbol_len (b ∷ t) → HasNoGap (b ∷ t) → Stands (b ∷ t) (Found kind.Symbol (symbol_len (b ∷ t)))
symbol_stands b t e some gap = (
  record {
    begins = record { within = symbol_within (b ∷ t); form = inl (symbol_led b t some); apart = λ _. symbol_apart (b ∷ t) };
    longest = λ k m h. let s = shape_at symbol b t k m (of_symbol b e) h in symbol_longest (b ∷ t) m h.within (led_are Symbol _ s.1) (h.apart s.0);
    only = λ k h. (shape_at symbol b t k (symbol_len (b ∷ t)) (of_symbol b e) h).0;
  },
  no_number,
  gap,
)

first_only : (b : ℕ) (t : List ℕ) → opens (b ∷ t) ≡ false → (i : ℕ) → i < 1 → opens (drop i (b ∷ t)) ≡ false
first_only b t o zero h = o
first_only b t o (suc i) h = absurd (omega (arith, h))

one_byte : (b : ℕ) (t : List ℕ) (m : ℕ) → m ≤ length (b ∷ t) → length (take m (b ∷ t)) ≡ 1 → m ≤ 1
one_byte b t m h e = let l = length-take-le m (b ∷ t) h in omega (arith, l, e)

-- a token of one byte
pub one_stands : (j : TokenKind) (l : Lead) (b : ℕ) (t : List ℕ) → lead b ≡ l → ((k : TokenKind) (bs : List ℕ) → Shape l k bs → (k ≡ j) × (length bs ≡ 1)) → IsToken j (b ∷ []) → opens (b ∷ t) ≡ false → IsBounded j → HasNoGap (b ∷ t) → Stands (b ∷ t) (Found j 1)
one_stands j l b t e f form o bounded gap = (
  record {
    begins = record { within = omega arith; form = form; apart = λ _. first_only b t o };
    longest = λ k m h. one_byte b t m h.within (f k _ (shape_at l b t k m e h)).1;
    only = λ k h. (f k _ (shape_at l b t k 1 e h)).0;
  },
  bounded,
  gap,
)
