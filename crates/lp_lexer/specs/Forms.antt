-- What a token of each kind is, and what stands between tokens: a definition over whole pieces, which knows no order of tests.
-- Source: the rules of tokens in docs/LANGUAGE.md, line by line.
use Rattle.std.specs.Prelude.{◌≡◌, ℕ, List, [], ◌∷◌, ◌++◌, length, codes, Bool, true, false, ◌&&◌, not, nat_eq, ◌⊎◌, pos}
use Rattle.lp_lexer.specs.declared.class.Class.{Class}
use Rattle.lp_lexer.specs.declared.class.Class.TheVariants.{Blank, Lower, Upper, Digit, Word, Symbol, Alone, Escaped, Line, Inside}
use Rattle.lp_lexer.specs.declared.token.TokenKind.{TokenKind}
use Rattle.lp_lexer.specs.declared.token.TokenKind.TheVariants as kind
use Rattle.lp_lexer.specs.Bytes.{is_in}
use Rattle.lp_lexer.specs.Comments.{Ends}
use Rattle.lp_lexer.specs.Front.{decimal_from}

-- each byte is of the class
abbrev pub are_in : Class → List ℕ → Bool
are_in class [] = true
are_in class (b ∷ bs) = is_in class b && are_in class bs

-- a byte of the first class, then any number of the second
abbrev pub is_led : Class → Class → List ℕ → Bool
is_led first rest [] = false
is_led first rest (b ∷ bs) = is_in first b && are_in rest bs

-- a byte that stands for itself in a string: neither a quote nor a \
abbrev pub is_plain : ℕ → Bool
is_plain b = not (nat_eq b 34) && (not (nat_eq b 92) && is_in Inside b)

-- what a string holds: plain bytes, and \ before \ " n t
pub data Strung : List ℕ → Type 0 where
  none : Strung []
  plain : (b : ℕ) (bs : List ℕ) → is_plain b ≡ true → Strung bs → Strung (b ∷ bs)
  escape : (c : ℕ) (bs : List ℕ) → is_in Escaped c ≡ true → Strung bs → Strung (92 ∷ c ∷ bs)

-- a real: digits, a dot, digits
abbrev pub IsReal : List ℕ → Type 0
IsReal bs = (whole : List ℕ) × (part : List ℕ) × (bs ≡ whole ++ 46 ∷ part) × (is_led Digit Digit whole ≡ true) × (is_led Digit Digit part ≡ true)

-- a string: a quote, what it holds, a quote
abbrev pub IsString : List ℕ → Type 0
IsString bs = (held : List ℕ) × (bs ≡ 34 ∷ (held ++ 34 ∷ [])) × Strung held

-- one of , ; !
abbrev pub IsAlone : List ℕ → Type 0
IsAlone bs = (b : ℕ) × (bs ≡ b ∷ []) × (is_in Alone b ≡ true)

-- these bytes are a token of this kind
abbrev pub IsToken : TokenKind → List ℕ → Type 0
IsToken kind.Lower bs = is_led Lower Word bs ≡ true
IsToken kind.Upper bs = is_led Upper Word bs ≡ true
IsToken kind.Symbol bs = (is_led Symbol Symbol bs ≡ true) ⊎ IsAlone bs
IsToken (kind.Number v) bs = (is_led Digit Digit bs ≡ true) × (v ≡ pos (decimal_from 0 bs))
IsToken kind.Real bs = IsReal bs
IsToken kind.Text bs = IsString bs
IsToken kind.Open bs = bs ≡ codes "("
IsToken kind.Close bs = bs ≡ codes ")"
IsToken kind.OpenList bs = bs ≡ codes "["
IsToken kind.CloseList bs = bs ≡ codes "]"
IsToken kind.Bar bs = bs ≡ codes "|"
IsToken kind.Dot bs = bs ≡ codes "."
IsToken kind.Backslash bs = bs ≡ 92 ∷ []

-- % and bytes of its line
abbrev pub IsLineComment : List ℕ → Type 0
IsLineComment bs = (rest : List ℕ) × (bs ≡ 37 ∷ rest) × (are_in Line rest ≡ true)

-- /*, and behind it the rest of a comment as the grammar of comments has it
abbrev pub IsNested : List ℕ → Type 0
IsNested bs = (rest : List ℕ) × (bs ≡ 47 ∷ 42 ∷ rest) × Ends (length rest) rest

-- these bytes stand between tokens: blanks, or one comment
abbrev pub IsGap : List ℕ → Type 0
IsGap bs = (is_led Blank Blank bs ≡ true) ⊎ (IsLineComment bs ⊎ IsNested bs)
