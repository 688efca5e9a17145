-- What a token is to the grammar, by its kind and its bytes.
use Rattle.std.specs.Prelude.{ℕ, Bool, false, ◌||◌, List, [], ◌∷◌, codes, Option, Some, None, if◌then◌else◌}
use Rattle.std.specs.Str.{bytes_eq}
use Rattle.lp_standard.specs.declared.fixity.Fixity.{Fixity}
use Rattle.lp_standard.specs.declared.fixity.Fixity.TheVariants as fixity
use Rattle.lp_lexer.specs.declared.token.TokenKind.{TokenKind}
use Rattle.lp_lexer.specs.declared.token.TokenKind.TheVariants as kind
use Rattle.lp_syntax.specs.declared.class.Keyword.{Keyword}
use Rattle.lp_syntax.specs.declared.class.Keyword.TheVariants as keyword
use Rattle.lp_syntax.specs.declared.class.Class.{Class}
use Rattle.lp_syntax.specs.declared.class.Class.TheVariants as class

-- one of these words
abbrev pub is_among : List (List ℕ) → List ℕ → Bool
is_among [] text = false
is_among (w ∷ ws) text = bytes_eq text w || is_among ws text

-- what a table has at a word
abbrev pub entry : {A : Type 0} → List (List ℕ × A) → List ℕ → Option A
entry [] text = None
entry (e ∷ es) text = if bytes_eq text e.0 then Some e.1 else entry es text

-- the words that are kept for what is not supported
abbrev pub unsupported : List (List ℕ)
unsupported = codes "import" ∷ codes "use_sig" ∷ codes "useonly" ∷ codes "exportdef" ∷ codes "closed" ∷ codes "print" ∷ []

abbrev pub fixities : List (List ℕ × Fixity)
fixities =
    (codes "infix", fixity.Infix) ∷
    (codes "infixl", fixity.Infixl) ∷
    (codes "infixr", fixity.Infixr) ∷
    (codes "prefix", fixity.Prefix) ∷
    (codes "prefixr", fixity.Prefixr) ∷
    (codes "postfix", fixity.Postfix) ∷
    (codes "postfixl", fixity.Postfixl) ∷ []

abbrev pub keywords : List (List ℕ × Keyword)
keywords =
    (codes "sig", keyword.Sig) ∷
    (codes "module", keyword.Module) ∷
    (codes "kind", keyword.Kind) ∷
    (codes "type", keyword.Type) ∷
    (codes "typeabbrev", keyword.Typeabbrev) ∷
    (codes "local", keyword.Local) ∷
    (codes "localkind", keyword.Localkind) ∷
    (codes "accumulate", keyword.Accumulate) ∷
    (codes "accum_sig", keyword.AccumSig) ∷ []

abbrev pub of_keyword : Option Keyword → Class
of_keyword None = class.Lower
of_keyword (Some k) = class.Keyword k

abbrev pub of_fixity : Option Fixity → Class → Class
of_fixity None c = c
of_fixity (Some f) c = class.Keyword (keyword.Fixity f)

-- a lower-case word, reserved or not
unfoldable pub lower : List ℕ → Class
lower text = if is_among unsupported text then class.Unsupported else of_fixity (entry fixities text) (of_keyword (entry keywords text))

unfoldable pub symbol : List ℕ → Class
symbol text = if bytes_eq text (codes ",") then class.Comma else (if bytes_eq text (codes ":") then class.Colon else (if bytes_eq text (codes "->") then class.Arrow else class.Symbol))

abbrev pub class_of : TokenKind → List ℕ → Class
class_of kind.Lower text = lower text
class_of kind.Upper text = class.Upper
class_of kind.Symbol text = symbol text
class_of (kind.Number n) text = class.Number n
class_of kind.Real text = class.Unsupported
class_of kind.Text text = class.Text
class_of kind.Open text = class.Open
class_of kind.Close text = class.Close
class_of kind.OpenList text = class.OpenList
class_of kind.CloseList text = class.CloseList
class_of kind.Bar text = class.Bar
class_of kind.Dot text = class.Dot
class_of kind.Backslash text = class.Backslash
