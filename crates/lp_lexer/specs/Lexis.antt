-- The tokens of a text, or its first fault.
use Rattle.std.specs.Prelude.{◌≡◌, ℕ, ◌+◌, ◌<◌, List, [], ◌∷◌, length, take, drop, nat_eq, Result, Ok, Err, if◌then◌else◌}
use Rattle.lp_base.specs.declared.place.Place.{Place}
use Rattle.lp_lexer.specs.declared.token.Token.{Token}
use Rattle.lp_lexer.specs.declared.token.TokenKind.{TokenKind}
use Rattle.lp_lexer.specs.declared.token.LexFault.{LexFault}
use Rattle.lp_lexer.specs.declared.token.LexFault.TheVariants as fault
use Rattle.lp_lexer.specs.declared.token.Piece.TheVariants.{Skip, Found, Bad, OpenText, OpenComment, BigNumber}
use Rattle.lp_lexer.specs.Front.{front}

-- behind a line feed a new line begins
abbrev pub past : Place → ℕ → Place
past p b = if nat_eq b 10 then record { line = p.line + 1; column = 1 } else record { line = p.line; column = p.column + 1 }

abbrev pub moved : Place → List ℕ → Place
moved p [] = p
moved p (b ∷ bs) = moved (past p b) bs

-- the place of a byte, by its number
abbrev pub place_at : List ℕ → ℕ → Place
place_at text i = moved (record { line = 1; column = 1 }) (take i text)

abbrev pub token : List ℕ → ℕ → TokenKind → ℕ → Token
token text i k n = record { kind = k; at = place_at text i; from = i; to = i + n }

-- from a byte on, a text has these tokens, or this first fault
pub data Lexes (text : List ℕ) : ℕ → List Token → Result Place LexFault → Type 0 where
  ends : (i : ℕ) → i ≡ length text → Lexes text i [] (Ok (place_at text i))
  skips : (i n : ℕ) (ts : List Token) (r : Result Place LexFault) → i < length text → front (drop i text) ≡ Skip n → Lexes text (i + n) ts r → Lexes text i ts r
  takes : (i n : ℕ) (k : TokenKind) (ts : List Token) (r : Result Place LexFault) → i < length text → front (drop i text) ≡ Found k n → Lexes text (i + n) ts r → Lexes text i (token text i k n ∷ ts) r
  bad : (i n : ℕ) → i < length text → front (drop i text) ≡ Bad n → Lexes text i [] (Err (fault.BadByte (place_at text (i + n))))
  open_text : (i : ℕ) → i < length text → front (drop i text) ≡ OpenText → Lexes text i [] (Err (fault.OpenText (place_at text i)))
  open_comment : (i : ℕ) → i < length text → front (drop i text) ≡ OpenComment → Lexes text i [] (Err (fault.OpenComment (place_at text i)))
  big_number : (i : ℕ) → i < length text → front (drop i text) ≡ BigNumber → Lexes text i [] (Err (fault.BigNumber (place_at text i)))

-- what the call gives is what the text has, unless memory ran out
abbrev pub HasTokens : List ℕ → List Token → Type 0
HasTokens text ts = (p : Place) × Lexes text 0 ts (Ok p)

abbrev pub HasFault : List ℕ → LexFault → Type 0
HasFault text fault.Memory = Unit {0}
HasFault text f = (ts : List Token) × Lexes text 0 ts (Err f)
