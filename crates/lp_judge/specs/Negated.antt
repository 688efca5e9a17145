-- Where the word `not` stands in texts: no certificate speaks of negations.
use Rattle.std.specs.Prelude.{◌≡◌, ℕ, List, [], ◌∷◌, ◌++◌, All, Option, Some, None, Bool, false, if◌then◌else◌, codes, string_bytes}
use Rattle.std.specs.Str.{bytes_eq}
use Rattle.lp_lexer.specs.Lexis.{HasTokens, place_at}
use Rattle.lp_lexer.specs.declared.token.Token.{Token}
use Rattle.lp_lexer.specs.declared.token.TokenKind.{TokenKind}
use Rattle.lp_lexer.specs.declared.token.TokenKind.TheVariants as kind
use Rattle.lp_syntax.specs.Tokens.{piece}
use Rattle.lp_build.specs.declared.sources.File.{File}
use Rattle.lp_lines.specs.Placed.{source_line}

-- whether a token of a kind, with these bytes, is the word
abbrev pub is_word : TokenKind → (word : List ℕ) → Bool
is_word kind.Lower word = bytes_eq word (codes "not")
is_word _ word = false

-- the first token of a text that is the word
abbrev pub first_among : (text : List ℕ) → List Token → Option Token
first_among text [] = None
first_among text (t ∷ ts) = if is_word t.kind (piece text t.from t.to) then Some t else first_among text ts

-- what is found as the first one in a text that has tokens
abbrev pub HasFirst : (text : List ℕ) → Token → Type 0
HasFirst text t = (ts : List Token) × HasTokens text ts × (first_among text ts ≡ Some t)

-- no token of a text is the word; of a text without tokens none is
abbrev pub HasNone : (text : List ℕ) → Type 0
HasNone text = (ts : List Token) → HasTokens text ts → first_among text ts ≡ None

-- a text, with the name by which a line tells of it
pub record Text : Type 0 where
  pub name : List ℕ
  pub bytes : List ℕ

-- the texts of files in order, the query last
abbrev pub texts_of : List File → (query : List ℕ) → List Text
texts_of [] query = record { name = codes "query"; bytes = query } ∷ []
texts_of (f ∷ fs) query = record { name = string_bytes f.name; bytes = f.text.bytes.items } ∷ texts_of fs query

-- the word stands in none of these texts
abbrev pub AreWithoutNot : List Text → Type 0
AreWithoutNot = All (λ t. HasNone t.bytes)

-- the line tells of the first place of the word: in the first of these texts that has it, the first one
pub record TellsFirstNot (texts : List Text) (line : List ℕ) : Type 0 where
  pub before : List Text
  pub text : Text
  pub behind : List Text
  pub order : texts ≡ before ++ text ∷ behind
  pub none : AreWithoutNot before
  pub token : Token
  pub first : HasFirst text.bytes token
  pub wrote : line ≡ source_line text.name (place_at text.bytes token.from) (codes "unsupported not")
