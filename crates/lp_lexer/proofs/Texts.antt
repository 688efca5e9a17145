-- What the tokens so far say of the whole text.
use Rattle.std.proofs.Common.{◌≡◌, ℕ, ◌+◌, ◌<◌, List, [], ◌∷◌, ◌++◌, length, take, drop, Result, Ok, refl, sym, ap, ◌∙◌, subst, append_assoc, append-nil, take-add, arith, ◌≤◌, ◌-◌, length-drop}
use Rattle.std.proofs.lemmas.List.{take_rest}
use Rattle.lp_base.specs.declared.place.Place.{Place}
use Rattle.lp_lexer.specs.declared.token.Token.{Token}
use Rattle.lp_lexer.specs.declared.token.TokenKind.{TokenKind}
use Rattle.lp_lexer.specs.declared.token.LexFault.{LexFault}
use Rattle.lp_lexer.specs.declared.token.Piece.{Piece}
use Rattle.lp_lexer.specs.declared.token.Piece.TheVariants.{Skip, Found, Bad, OpenText, OpenComment, BigNumber}
use Rattle.lp_lexer.specs.declared.token.LexFault.TheVariants as fault
use Rattle.lp_lexer.specs.Front.{front}
use Rattle.lp_lexer.specs.Lexis.{past, moved, place_at, token, Lexes, ends, bad, open_text, open_comment, big_number, skips, takes, HasTokens, HasFault}

-- these are the tokens before a byte
pub record Before (text : List ℕ) (i : ℕ) (out : List Token) : Type 0 where
  pub on : (ts : List Token) (r : Result Place LexFault) → Lexes text i ts r → Lexes text 0 (out ++ ts) r

pub before_first : (text : List ℕ) → Before text 0 []
before_first text = record { on = λ ts r h. h }

pub before_skip : (text : List ℕ) (i n : ℕ) (out : List Token) → i < length text → front (drop i text) ≡ Skip n → Before text i out → Before text (i + n) out
before_skip text i n out h e b = record { on = λ ts r d. b.on ts r (skips i n ts r h e d) }

pub before_take : (text : List ℕ) (i n : ℕ) (k : TokenKind) (out : List Token) → i < length text → front (drop i text) ≡ Found k n → Before text i out → Before text (i + n) (out ++ token text i k n ∷ [])
before_take text i n k out h e b = record { on = λ ts r d. rw (append_assoc out (token text i k n ∷ []) ts) (b.on (token text i k n ∷ ts) r (takes i n k ts r h e d)) }

moved_more : (p : Place) (xs ys : List ℕ) → moved (moved p xs) ys ≡ moved p (xs ++ ys)
moved_more p [] ys = refl
moved_more p (x ∷ xs) ys = moved_more (past p x) xs ys

pub place_on : (text : List ℕ) (i n : ℕ) → moved (place_at text i) (take n (drop i text)) ≡ place_at text (i + n)
place_on text i n = moved_more (record { line = 1; column = 1 }) (take i text) (take n (drop i text)) ∙ ap (moved (record { line = 1; column = 1 })) (sym (take-add i n text))

pub place_after : (text : List ℕ) (i n : ℕ) (p q : Place) → p ≡ place_at text i → q ≡ moved p (take (i + n - i) (drop i text)) → q ≡ place_at text (i + n)
place_after text i n p q e f = let g : i + n - i ≡ n = omega arith in f ∙ (rw (e, g) (place_on text i n))

pub fault_bad : (text : List ℕ) (i n : ℕ) (out : List Token) (q : Place) → Before text i out → i < length text → front (drop i text) ≡ Bad n → q ≡ place_at text (i + n) → HasFault text (fault.BadByte q)
fault_bad text i n out q b h e f = rw f (out ++ [], b.on [] _ (bad i n h e))

pub fault_text : (text : List ℕ) (i : ℕ) (out : List Token) (q : Place) → Before text i out → i < length text → front (drop i text) ≡ OpenText → q ≡ place_at text i → HasFault text (fault.OpenText q)
fault_text text i out q b h e f = rw f (out ++ [], b.on [] _ (open_text i h e))

pub fault_comment : (text : List ℕ) (i : ℕ) (out : List Token) (q : Place) → Before text i out → i < length text → front (drop i text) ≡ OpenComment → q ≡ place_at text i → HasFault text (fault.OpenComment q)
fault_comment text i out q b h e f = rw f (out ++ [], b.on [] _ (open_comment i h e))

pub fault_number : (text : List ℕ) (i : ℕ) (out : List Token) (q : Place) → Before text i out → i < length text → front (drop i text) ≡ BigNumber → q ≡ place_at text i → HasFault text (fault.BigNumber q)
fault_number text i out q b h e f = rw f (out ++ [], b.on [] _ (big_number i h e))

pub all_done : (text : List ℕ) (i : ℕ) (out : List Token) → Before text i out → i ≤ length text → length text ≤ i → HasTokens text out
all_done text i out b h l =
    let e : i ≡ length text = omega arith in
    let P : List Token → Type 0 = λ ts. Lexes text 0 ts (Ok (place_at text i)) in
    (place_at text i, subst P (append-nil out) (b.on [] _ (ends i e)))

pub front_is : (text : List ℕ) (i : ℕ) (p : Piece) → p ≡ front (take (length text - i) (drop i text)) → front (drop i text) ≡ p
front_is text i p h = ap front (sym (take_rest text i)) ∙ sym h

pub rest_length : (text : List ℕ) (i : ℕ) → length (take (length text - i) (drop i text)) ≡ length text - i
rest_length text i = ap length (take_rest text i) ∙ length-drop i text

pub pushed_token : (text : List ℕ) (i n : ℕ) (k : TokenKind) (out new : List Token) (p : Place) → p ≡ place_at text i → new ≡ out ++ record { kind = k; at = p; from = i; to = i + n } ∷ [] → i < length text → front (drop i text) ≡ Found k n → Before text i out → Before text (i + n) new
pushed_token text i n k out new p e f h g b = rw (f, e) (before_take text i n k out h g b)
