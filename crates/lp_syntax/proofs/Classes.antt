-- The class of a token that is there, and the fault at it.
use Rattle.std.proofs.Common.{◌≡◌, ◌≢◌, ℕ, ◌<◌, Bool, true, false, List, length, refl, sym, ap, ◌∙◌, get_or}
use Rattle.std.specs.Prelude.{Option, Some, None, if◌then◌else◌, codes}
use Rattle.std.specs.Str.{bytes_eq}
use Rattle.std.proofs.lemmas.Option.{slice_get-get_or}
use Rattle.lp_base.specs.declared.place.Spot.{Spot}
use Rattle.lp_standard.specs.declared.fixity.Fixity.{Fixity}
use Rattle.lp_lexer.specs.declared.token.TokenKind.{TokenKind}
use Rattle.lp_lexer.specs.declared.token.TokenKind.TheVariants as kind
use Rattle.lp_syntax.specs.declared.class.Keyword.{Keyword as Reserved}
use Rattle.lp_syntax.specs.declared.class.Class.{Class}
use Rattle.lp_syntax.specs.declared.class.Class.TheVariants.{Lower, Upper, Symbol, Comma, Colon, Arrow, Number, Text, Open, Close, OpenList, CloseList, Bar, Dot, Backslash, Keyword, Unsupported, End}
use Rattle.lp_syntax.specs.Classes.{class_of, lower, symbol, is_among, entry, unsupported, fixities, keywords, of_keyword, of_fixity}
use Rattle.lp_syntax.specs.Tokens.{Lexeme, class_at, class_in}
use Rattle.lp_syntax.specs.Faults.{refused}
use Rattle.lp_syntax.proofs.TypeFaults.{closing}

lower_there : (text : List ℕ) → lower text ≢ End
unfolding lower
lower_there text = go (is_among unsupported text) (entry fixities text) (entry keywords text)
  where
    go : (b : Bool) (f : Option Fixity) (k : Option Reserved) → (if b then Unsupported else of_fixity f (of_keyword k)) ≢ End
    go true f k = λ e. cc
    go false (Some f) k = λ e. cc
    go false None (Some k) = λ e. cc
    go false None None = λ e. cc

symbol_there : (text : List ℕ) → symbol text ≢ End
unfolding symbol
symbol_there text = go (bytes_eq text (codes ",")) (bytes_eq text (codes ":")) (bytes_eq text (codes "->"))
  where
    go : (a b c : Bool) → (if a then Comma else (if b then Colon else (if c then Arrow else Symbol))) ≢ End
    go true b c = λ e. cc
    go false true c = λ e. cc
    go false false true = λ e. cc
    go false false false = λ e. cc

there : (k : TokenKind) (text : List ℕ) → class_of k text ≢ End
there kind.Lower text = lower_there text
there kind.Symbol text = symbol_there text
there kind.Upper text = λ e. cc
there (kind.Number n) text = λ e. cc
there kind.Real text = λ e. cc
there kind.Text text = λ e. cc
there kind.Open text = λ e. cc
there kind.Close text = λ e. cc
there kind.OpenList text = λ e. cc
there kind.CloseList text = λ e. cc
there kind.Bar text = λ e. cc
there kind.Dot text = λ e. cc
there kind.Backslash text = λ e. cc

-- a token is not the end
pub class_there : (ls : List Lexeme) (i : ℕ) → i < length ls → class_at ls i ≢ End
unfolding class_at
class_there ls i l = λ e. let g = ap class_in (sym (slice_get-get_or ls i closing l)) ∙ e in there (get_or ls i closing).kind (get_or ls i closing).bytes g

-- the bracket matters at the end alone
pub refused_there : (spot : ℕ → Spot) (n : ℕ) (b d : Option ℕ) (c : Class) → c ≢ End → refused spot n b c ≡ refused spot n d c
refused_there spot n b d Lower h = refl
refused_there spot n b d Upper h = refl
refused_there spot n b d Symbol h = refl
refused_there spot n b d Comma h = refl
refused_there spot n b d Colon h = refl
refused_there spot n b d Arrow h = refl
refused_there spot n b d (Number z) h = refl
refused_there spot n b d Text h = refl
refused_there spot n b d Open h = refl
refused_there spot n b d Close h = refl
refused_there spot n b d OpenList h = refl
refused_there spot n b d CloseList h = refl
refused_there spot n b d Bar h = refl
refused_there spot n b d Dot h = refl
refused_there spot n b d Backslash h = refl
refused_there spot n b d (Keyword k) h = refl
refused_there spot n b d Unsupported h = refl
refused_there spot n b d End h = absurd (h refl)
