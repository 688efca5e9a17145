-- The function gives a reading: each piece has a byte, so the pieces do not run out before the text.
use Rattle.std.proofs.Common.{◌≡◌, ℕ, suc, zero, ◌+◌, ◌-◌, ◌<◌, ◌≤◌, List, [], ◌∷◌, length, drop, refl, sym, subst, arith, length-drop, drop-cons, get_or, Result, Ok, Err, inl, inr}
use Rattle.std.proofs.lemmas.Bool.{cases_lt, lt-ltb, le-ltb}
use Rattle.lp_base.specs.declared.place.Place.{Place}
use Rattle.lp_lexer.specs.declared.token.Token.{Token}
use Rattle.lp_lexer.specs.declared.token.LexFault.{LexFault}
use Rattle.lp_lexer.specs.declared.token.Piece.{Piece}
use Rattle.lp_lexer.specs.declared.token.Piece.TheVariants.{Skip, Found, Bad, OpenText, OpenComment, BigNumber}
use Rattle.lp_lexer.specs.Front.{front, IsWithin}
use Rattle.lp_lexer.specs.Lexis.{place_at, token, Lexes, ends, skips, takes, bad, open_text, open_comment, big_number}
use Rattle.lp_lexer.specs.Lexed.{with_token, lexed_from, piece_read, lexed}
use Rattle.lp_lexer.proofs.Within.{front_within}

-- a reading from byte i on
abbrev pub ReadsFrom : List ℕ → ℕ → Result (List Token) LexFault → Type 0
ReadsFrom text i (Ok ts) = (p : Place) × Lexes text i ts (Ok p)
ReadsFrom text i (Err f) = (ts : List Token) × Lexes text i ts (Err f)

skipped : (text : List ℕ) (i n : ℕ) (r : Result (List Token) LexFault) → i < length text → front (drop i text) ≡ Skip n → ReadsFrom text (i + n) r → ReadsFrom text i r
skipped text i n (Ok ts) h e (p, d) = (p, skips i n ts _ h e d)
skipped text i n (Err f) h e (ts, d) = (ts, skips i n ts _ h e d)

taken : (text : List ℕ) (i n : ℕ) (k : _) (r : Result (List Token) LexFault) → i < length text → front (drop i text) ≡ Found k n → ReadsFrom text (i + n) r → ReadsFrom text i (with_token (token text i k n) r)
taken text i n k (Ok ts) h e (p, d) = (p, takes i n k ts _ h e d)
taken text i n k (Err f) h e (ts, d) = (token text i k n ∷ ts, takes i n k ts _ h e d)

pub within_rest : (text : List ℕ) (i : ℕ) → i < length text → IsWithin (length text - i) (front (drop i text))
within_rest text i h =
    let P : List ℕ → Type 0 = λ l. IsWithin (length l) (front l) in
    let w : P (drop i text) = subst P (sym (drop-cons text i 0 h)) (front_within (get_or text i 0) (drop (suc i) text)) in
    subst (λ len. IsWithin len (front (drop i text))) (length-drop i text) w

read_piece : (fuel : ℕ) (text : List ℕ) (i : ℕ) (p : Piece) → ((j : ℕ) → length text - j ≤ fuel → j ≤ length text → ReadsFrom text j
    (lexed_from fuel text j)) → length text - i ≤ suc fuel → i < length text → front (drop i text) ≡ p → IsWithin (length text - i) p → ReadsFrom text
    i (piece_read (λ j. lexed_from fuel text j) text i p)
read_piece fuel text i (Skip n) r l h e (some, most) = skipped text i n _ h e (r (i + n) (omega arith) (omega arith))
read_piece fuel text i (Found k n) r l h e (some, most) = taken text i n k _ h e (r (i + n) (omega arith) (omega arith))
read_piece fuel text i (Bad n) r l h e w = ([], bad i n h e)
read_piece fuel text i OpenText r l h e w = ([], open_text i h e)
read_piece fuel text i OpenComment r l h e w = ([], open_comment i h e)
read_piece fuel text i BigNumber r l h e w = ([], big_number i h e)

read_from : (fuel : ℕ) (text : List ℕ) (i : ℕ) → length text - i ≤ fuel → i ≤ length text → ReadsFrom text i (lexed_from fuel text i)
read_from zero text i l w = (place_at text i, ends i (omega arith))
read_from (suc fuel) text i l w = elim (cases_lt i (length text)) [
  | inl h ↦ rw (lt-ltb i (length text) h) (read_piece fuel text i (front (drop i text)) (λ j a b. read_from fuel text j a b) l h refl (within_rest text i h))
  | inr h ↦ rw (le-ltb i (length text) h) (place_at text i, ends i (omega arith))
]

pub reading_is : (text : List ℕ) → ReadsFrom text 0 (lexed text)
reading_is text = read_from (length text) text 0 (omega arith) (omega arith)
