-- The reading of a text as a function: its tokens, or its first fault. `Lexis` says the same as a relation.
use Rattle.std.specs.Prelude.{ℕ, zero, suc, ◌+◌, List, [], ◌∷◌, length, drop, nat_lt, Result, Ok, Err, if◌then◌else◌}
use Rattle.lp_lexer.specs.declared.token.Token.{Token}
use Rattle.lp_lexer.specs.declared.token.LexFault.{LexFault}
use Rattle.lp_lexer.specs.declared.token.LexFault.TheVariants as fault
use Rattle.lp_lexer.specs.declared.token.Piece.{Piece}
use Rattle.lp_lexer.specs.declared.token.Piece.TheVariants.{Skip, Found, Bad, OpenText, OpenComment, BigNumber}
use Rattle.lp_lexer.specs.Front.{front}
use Rattle.lp_lexer.specs.Lexis.{place_at, token}

abbrev pub with_token : Token → Result (List Token) LexFault → Result (List Token) LexFault
with_token t (Ok ts) = Ok (t ∷ ts)
with_token t (Err f) = Err f

-- what a piece at byte i gives, where `on` gives the rest
abbrev pub piece_read : (ℕ → Result (List Token) LexFault) → List ℕ → ℕ → Piece → Result (List Token) LexFault
piece_read on text i (Skip n) = on (i + n)
piece_read on text i (Found k n) = with_token (token text i k n) (on (i + n))
piece_read on text i (Bad n) = Err (fault.BadByte (place_at text (i + n)))
piece_read on text i OpenText = Err (fault.OpenText (place_at text i))
piece_read on text i OpenComment = Err (fault.OpenComment (place_at text i))
piece_read on text i BigNumber = Err (fault.BigNumber (place_at text i))

-- from byte i on, in at most so many pieces
abbrev pub lexed_from : ℕ → List ℕ → ℕ → Result (List Token) LexFault
lexed_from zero text i = Ok []
lexed_from (suc fuel) text i = if nat_lt i (length text) then piece_read (λ j. lexed_from fuel text j) text i (front (drop i text)) else Ok []

-- a piece has a byte, so no text has more pieces than bytes
abbrev pub lexed : List ℕ → Result (List Token) LexFault
lexed text = lexed_from (length text) text 0
