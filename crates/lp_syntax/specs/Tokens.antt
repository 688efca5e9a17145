-- A text as the grammar sees it: its tokens, by their numbers, and the operators that are in force.
use Rattle.std.specs.Prelude.{◌≡◌, ℕ, zero, suc, ◌-◌, ◌<◌, ◌≤◌, Bool, true, false, ◌&&◌, nat_le, List, [], ◌∷◌, ◌++◌, length, take, map, slice_get, slice_range, Option, Some, None, if◌then◌else◌}
use Rattle.lp_base.specs.declared.place.Spot.{Spot}
use Rattle.lp_standard.specs.declared.fixity.Fixity.{Fixity}
use Rattle.lp_lexer.specs.declared.token.Token.{Token}
use Rattle.lp_lexer.specs.declared.token.TokenKind.{TokenKind}
use Rattle.lp_lexer.specs.Lexis.{place_at}
use Rattle.lp_syntax.specs.declared.class.Class.{Class}
use Rattle.lp_syntax.specs.declared.class.Class.TheVariants as class
use Rattle.lp_syntax.specs.declared.symbol.Sym.{Sym}
use Rattle.lp_syntax.specs.declared.symbol.Sym.TheVariants as sym_of
use Rattle.lp_syntax.specs.Classes.{class_of}

-- a token of the grammar
pub record Lexeme : Type 0 where
  pub kind : TokenKind
  pub bytes : List ℕ

-- what each name is as an operator
abbrev pub Operators : Type 0
Operators = List ℕ → Option (Fixity × ℕ)

-- the bytes of a token, none where it does not lie in the text
unfoldable pub piece : List ℕ → ℕ → ℕ → List ℕ
piece source from to = if nat_le from to && nat_le to (length source) then slice_range source from to else []

abbrev pub lexeme : List ℕ → Token → Lexeme
lexeme source t = record { kind = t.kind; bytes = piece source t.from t.to }

abbrev pub lexemes : List ℕ → List Token → List Lexeme
lexemes source tokens = map (lexeme source) tokens

abbrev pub class_in : Option Lexeme → Class
class_in None = class.End
class_in (Some l) = class_of l.kind l.bytes

abbrev pub bytes_in : Option Lexeme → List ℕ
bytes_in None = []
bytes_in (Some l) = l.bytes

-- the class and the bytes of a token, by its number
unfoldable pub class_at : List Lexeme → ℕ → Class
class_at ls i = class_in (slice_get ls i)

unfoldable pub bytes_at : List Lexeme → ℕ → List ℕ
bytes_at ls i = bytes_in (slice_get ls i)

-- a name that may be an operator
abbrev pub named : ℕ → Bool → Sym → Option (Fixity × ℕ) → Sym
named i comma c None = c
named i comma c (Some e) = sym_of.Op (record { spot = i; fixity = e.0; number = e.1; comma = comma })

-- what the grammar of terms sees of a token that begins no annotation
abbrev pub symbol_of : ℕ → Class → Option (Fixity × ℕ) → Sym
symbol_of i class.Lower e = named i false (sym_of.Word i) e
symbol_of i class.Upper e = sym_of.Word i
symbol_of i class.Symbol e = named i false (sym_of.Atom i) e
symbol_of i class.Comma e = named i true (sym_of.Atom i) e
symbol_of i (class.Number n) e = sym_of.Atom i
symbol_of i class.Text e = sym_of.Atom i
symbol_of i class.Open e = sym_of.Opens
symbol_of i class.Close e = sym_of.Closes
symbol_of i class.OpenList e = sym_of.OpensList i
symbol_of i class.CloseList e = sym_of.ClosesList i
symbol_of i class.Bar e = sym_of.Bar
symbol_of i class.Backslash e = sym_of.Binds None
symbol_of i _ e = sym_of.Other

unfoldable pub symbol_at : Operators → List Lexeme → ℕ → Sym
symbol_at ops ls i = symbol_of i (class_at ls i) (ops (bytes_at ls i))

-- the spot of a token; behind the last one, the place behind the text
abbrev pub spot_in : ℕ → List ℕ → Option Token → Spot
spot_in file source None = record { file = file; from = length source; to = length source; at = place_at source (length source) }
spot_in file source (Some t) = record { file = file; from = t.from; to = t.to; at = t.at }

unfoldable pub spot_at : ℕ → List ℕ → List Token → ℕ → Spot
spot_at file source tokens i = spot_in file source (slice_get tokens i)

-- the brackets that are open behind a token, innermost last
abbrev pub open_behind : ℕ → Class → List ℕ → List ℕ
open_behind i class.Open bs = bs ++ i ∷ []
open_behind i class.OpenList bs = bs ++ i ∷ []
open_behind i class.Close bs = take (length bs - 1) bs
open_behind i class.CloseList bs = take (length bs - 1) bs
open_behind i _ bs = bs

-- the brackets that are open behind so many tokens more
unfoldable pub open_on : List Lexeme → List ℕ → ℕ → ℕ → List ℕ
open_on ls bs i zero = bs
open_on ls bs i (suc n) = open_on ls (open_behind i (class_at ls i) bs) (suc i) n

-- the brackets that are open behind the tokens from one number up to another
abbrev pub open_brackets : List Lexeme → ℕ → ℕ → List ℕ
open_brackets ls from to = open_on ls [] from (to - from)

-- these tokens begin both texts
pub record Agree (n : ℕ) (ls ms : List Lexeme) : Type 0 where
  pub long : n ≤ length ms
  pub same : (i : ℕ) → i < n → slice_get ms i ≡ slice_get ls i
