-- The laws of the reading of a text.
use Rattle.std.specs.Prelude.{◌≡◌, ◌<◌, ◌≤◌, ◌-◌, ℕ, List, length, drop, Result, Ok, Err, Some, All}
use Rattle.lp_base.specs.declared.place.Place.{Place}
use Rattle.lp_lexer.specs.declared.token.Token.{Token}
use Rattle.lp_lexer.specs.declared.token.LexFault.{LexFault}
use Rattle.lp_lexer.specs.Comments.{Ends}
use Rattle.lp_lexer.specs.declared.token.Piece.{Piece}
use Rattle.lp_lexer.specs.Front.{comment_len, front}
use Rattle.lp_lexer.specs.Stands.{Stands, IsLongest, IsBounded}
use Rattle.lp_lexer.specs.Lexis.{Lexes, place_at}
use Rattle.lp_lexer.specs.Lexed.{lexed}

-- two readings of one text have the same tokens and the same end
abbrev pub HasOneReading : Type 0
HasOneReading = (text : List ℕ) (ts us : List Token) (r q : Result Place LexFault) → Lexes text 0 ts r → Lexes text 0 us q → (ts ≡ us) × (r ≡ q)

-- a text has these tokens, or this fault behind some tokens
abbrev pub Reads : List ℕ → Result (List Token) LexFault → Type 0
Reads text (Ok ts) = (p : Place) × Lexes text 0 ts (Ok p)
Reads text (Err f) = (ts : List Token) × Lexes text 0 ts (Err f)

-- each text has a reading, the one that `lexed` gives
abbrev pub HasReading : Type 0
HasReading = (text : List ℕ) → Reads text (lexed text)

-- a comment ends where the grammar of comments lets it end, and nowhere else
abbrev pub NestsComments : Type 0
NestsComments = (n : ℕ) (bytes : List ℕ) → record { ends : Ends n bytes → comment_len 1 bytes ≡ Some n; only : comment_len 1 bytes ≡ Some n → Ends n bytes }

-- at each place the tests in turn find what the forms of tokens say that stands there, and nothing else
abbrev pub TakesLongest : Type 0
TakesLongest = (text : List ℕ) (p : Piece) → 0 < length text → record { stands : front text ≡ p → Stands text p; only : Stands text p → front text ≡ p }

-- a token of a text: its bytes are the longest token at its place
pub record IsTokenOf (text : List ℕ) (t : Token) : Type 0 where
  pub some : t.from < t.to
  pub within : t.to ≤ length text
  pub longest : IsLongest (drop t.from text) t.kind (t.to - t.from)
  pub bounded : IsBounded t.kind
  pub place : t.at ≡ place_at text t.from

-- so is each token of a reading, in front of a fault too
abbrev pub HasLongest : Type 0
HasLongest = (text : List ℕ) (ts : List Token) (r : Result Place LexFault) → Lexes text 0 ts r → All (IsTokenOf text) ts
