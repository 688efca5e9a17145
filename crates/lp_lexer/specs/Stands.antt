-- What stands at the front of a text, said by the forms of tokens alone: the longest token, or the longest gap, or why there is none.
use Rattle.std.specs.Prelude.{◌≡◌, ℕ, ◌+◌, ◌≤◌, ◌<◌, ◌^◌, List, [], ◌∷◌, length, take, drop, slice_index, Bool, true, false, ◌&&◌, nat_eq, ◌⊎◌, pos}
use Rattle.lp_lexer.specs.declared.class.Class.TheVariants.{Escaped}
use Rattle.lp_lexer.specs.declared.token.TokenKind.{TokenKind}
use Rattle.lp_lexer.specs.declared.token.TokenKind.TheVariants as kind
use Rattle.lp_lexer.specs.declared.token.Piece.{Piece}
use Rattle.lp_lexer.specs.declared.token.Piece.TheVariants.{Skip, Found, Bad, OpenText, OpenComment, BigNumber}
use Rattle.lp_lexer.specs.Bytes.{is_in}
use Rattle.lp_lexer.specs.Comments.{Ends}
use Rattle.lp_lexer.specs.Forms.{IsToken, IsGap, Strung, is_plain}

-- a /* stands at the front
abbrev pub opens : List ℕ → Bool
opens bs = nat_eq (slice_index bs 0) 47 && nat_eq (slice_index bs 1) 42

-- the first n bytes are a token of this kind; a /* opens a comment wherever it stands, so no byte of a symbol begins one,
-- its last byte neither
pub record Begins (text : List ℕ) (k : TokenKind) (n : ℕ) : Type 0 where
  pub within : n ≤ length text
  pub form : IsToken k (take n text)
  pub apart : k ≡ kind.Symbol → (i : ℕ) → i < n → opens (drop i text) ≡ false

-- and no token of any kind is longer, nor are these bytes one of another kind
pub record IsLongest (text : List ℕ) (k : TokenKind) (n : ℕ) : Type 0 where
  pub begins : Begins text k n
  pub longest : (j : TokenKind) (m : ℕ) → Begins text j m → m ≤ n
  pub only : (j : TokenKind) → Begins text j n → j ≡ k

-- the first n bytes are blanks or a comment, and no longer gap stands there
pub record IsLongestGap (text : List ℕ) (n : ℕ) : Type 0 where
  pub within : n ≤ length text
  pub form : IsGap (take n text)
  pub longest : (m : ℕ) → m ≤ length text → IsGap (take m text) → m ≤ n

abbrev pub HasNoToken : List ℕ → Type 0
HasNoToken text = (k : TokenKind) (m : ℕ) → Begins text k m → ⊥

abbrev pub HasNoGap : List ℕ → Type 0
HasNoGap text = (m : ℕ) → m ≤ length text → IsGap (take m text) → ⊥

-- a number is below 2 ^ 63
abbrev pub IsBounded : TokenKind → Type 0
IsBounded k = (v : ℕ) → k ≡ kind.Number (pos v) → v < 2 ^ 63

-- a byte that belongs to nothing: no token, no blanks and no comment begin with it, whatever follows
abbrev pub IsStray : ℕ → Type 0
IsStray b = (bs : List ℕ) → ((k : TokenKind) → IsToken k (b ∷ bs) → ⊥) × (IsGap (b ∷ bs) → ⊥)

-- what may stand between the quotes of a string if nobody looks at which bytes are allowed: no quote but an escaped one, no line feed
pub data Loose : List ℕ → Type 0 where
  none : Loose []
  escape : (c : ℕ) (bs : List ℕ) → is_in Escaped c ≡ true → Loose bs → Loose (92 ∷ c ∷ bs)
  lone : (c : ℕ) (bs : List ℕ) → is_in Escaped c ≡ false → Loose (c ∷ bs) → Loose (92 ∷ c ∷ bs)
  other : (b : ℕ) (bs : List ℕ) → nat_eq b 34 ≡ false → nat_eq b 10 ≡ false → nat_eq b 92 ≡ false → Loose bs → Loose (b ∷ bs)

-- behind the opening quote of a string: a quote closes it on its line
abbrev pub IsClosed : List ℕ → Type 0
IsClosed rest = (n : ℕ) × (n < length rest) × Loose (take n rest) × (slice_index rest n ≡ 34)

-- behind the opening quote of a string: its n first bytes are what a string holds, and the next one is neither plain nor the \ of
-- an escape, nor does it end the string or the line
pub record IsBadIn (rest : List ℕ) (n : ℕ) : Type 0 where
  pub within : n < length rest
  pub strung : Strung (take n rest)
  pub not_plain : is_plain (slice_index rest n) ≡ false
  pub no_escape : (nat_eq (slice_index rest n) 92 && is_in Escaped (slice_index rest (n + 1))) ≡ false
  pub no_quote : nat_eq (slice_index rest n) 34 ≡ false
  pub no_line : nat_eq (slice_index rest n) 10 ≡ false

-- what stands at the front of a text that has a byte
abbrev pub Stands : List ℕ → Piece → Type 0
Stands text (Skip n) = IsLongestGap text n × HasNoToken text
Stands text (Found k n) = IsLongest text k n × IsBounded k × HasNoGap text
Stands text BigNumber = (v : ℕ) × (n : ℕ) × IsLongest text (kind.Number (pos v)) n × (2 ^ 63 ≤ v) × HasNoGap text
Stands text (Bad n) =
    ((n ≡ 0) × IsStray (slice_index text 0)) ⊎
    ((m : ℕ) × (n ≡ 1 + m) × (slice_index text 0 ≡ 34) × IsBadIn (drop 1 text) m × IsClosed (drop 1 text) × HasNoToken text × HasNoGap text)
Stands text OpenText = (slice_index text 0 ≡ 34) × (IsClosed (drop 1 text) → ⊥) × HasNoToken text × HasNoGap text
Stands text OpenComment = (opens text ≡ true) × ((n : ℕ) → Ends n (drop 2 text) → ⊥) × HasNoToken text × HasNoGap text
