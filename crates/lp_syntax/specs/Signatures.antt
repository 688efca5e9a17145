-- The grammar of signatures: their lines and their faults.
use Rattle.std.specs.Prelude.{◌≡◌, ℕ, suc, ◌+◌, ◌<◌, ◌≤◌, ◌⊎◌, Bool, true, false, List, [], ◌∷◌, length, All, Result, Ok, Err}
use Rattle.lp_base.specs.declared.place.Spot.{Spot}
use Rattle.lp_base.specs.declared.limit.Limit.TheVariants.{Nesting}
use Rattle.lp_syntax.specs.declared.class.Keyword.{Keyword}
use Rattle.lp_syntax.specs.declared.class.Keyword.TheVariants as keyword
use Rattle.lp_syntax.specs.declared.class.Class.TheVariants as class
use Rattle.lp_syntax.specs.declared.fault.SyntaxFault.{SyntaxFault}
use Rattle.lp_syntax.specs.declared.fault.SyntaxFault.TheVariants as fault
use Rattle.lp_syntax.specs.declared.text.Declaration.{Declaration}
use Rattle.lp_syntax.specs.declared.text.SignatureText.{SignatureText}
use Rattle.lp_syntax.specs.Tokens.{Lexeme, class_at, open_brackets, Agree}
use Rattle.lp_syntax.specs.Faults.{refused, innermost}
use Rattle.std.specs.Prelude.{None}
use Rattle.lp_base.specs.declared.limits.TheConstants.{MAX_TYPE_DEPTH}
use Rattle.lp_syntax.specs.LineMachine.{AtStart, StopsIn}
use Rattle.lp_syntax.specs.Declarations.{is_word, Line, LocalKindLine, LocalLine, AccumulateLine, IsBody, IsShown, line_depth, LineFits}

-- `sig` or `module`, the name, and a full stop
pub record IsHeader (ls : List Lexeme) (k : Keyword) : Type 0 where
  pub first : class_at ls 0 ≡ class.Keyword k
  pub second : is_word (class_at ls 1) ≡ true
  pub third : class_at ls 2 ≡ class.Dot

-- a declaration with its keyword
pub record IsLine (ls : List Lexeme) (i j : ℕ) (l : Line) : Type 0 where
  pub word : Keyword
  pub there : class_at ls i ≡ class.Keyword word
  pub body : IsBody ls word (i + 1) j l

-- what a module has and a signature has not
abbrev pub is_local : Line → Bool
is_local (LocalKindLine ns n) = true
is_local (LocalLine ns t) = true
is_local (AccumulateLine ns) = true
is_local _ = false

abbrev pub is_local_word : Keyword → Bool
is_local_word keyword.Localkind = true
is_local_word keyword.Local = true
is_local_word keyword.Accumulate = true
is_local_word _ = false

-- the lines from one token up to another
pub data AreLines (ls : List Lexeme) : ℕ → ℕ → List Line → Type 0 where
  no_line : (i : ℕ) → AreLines ls i i []
  one_line : (i k j : ℕ) (d : Line) (ds : List Line) → IsLine ls i k d → is_local d ≡ false → AreLines ls k j ds → AreLines ls i j (d ∷ ds)

-- a header and lines up to the end of the text
pub record IsSignature (ls : List Lexeme) (ds : List Line) : Type 0 where
  pub header : IsHeader ls keyword.Sig
  pub lines : AreLines ls 3 (length ls) ds

-- some signature begins with the tokens below this number
pub record SignatureBegins (ls : List Lexeme) (n : ℕ) : Type 0 where
  pub text : List Lexeme
  pub agrees : Agree n ls text
  pub lines : List Line
  pub signature : IsSignature text lines

-- the fault of a text that is no signature is at the first token such that no signature begins with the tokens up to it, the end of
-- the text counted as a token
pub record SignatureFault (spot : ℕ → Spot) (ls : List Lexeme) (f : SyntaxFault) : Type 0 where
  pub number : ℕ
  pub high : number ≤ length ls
  pub viable : SignatureBegins ls number
  pub first : number < length ls → SignatureBegins ls (suc number) → ⊥
  pub none : (ds : List Line) → IsSignature ls ds → ⊥
  pub kind : f ≡ refused spot number (innermost (open_brackets ls 0 number)) (class_at ls number)

-- what is handed out of lines, and of a signature
abbrev pub AreShown : (ℕ → Spot) → List Declaration → List Line → Type 0
AreShown spot [] [] = Unit {0}
AreShown spot (d ∷ ds) (l ∷ ls) = IsShown spot d l × AreShown spot ds ls
AreShown spot _ _ = ⊥

pub record IsSignatureText (spot : ℕ → Spot) (ls : List Lexeme) (text : SignatureText) : Type 0 where
  pub lines : List Line
  pub is : IsSignature ls lines
  pub shown : AreShown spot text.lines.items lines
  pub fit : All LineFits lines
  pub name : text.header ≡ spot 1

-- lines, and behind them one whose type is too deep
pub record HasDeepLine (ls : List Lexeme) : Type 0 where
  pub from : ℕ
  pub to : ℕ
  pub header : IsHeader ls keyword.Sig
  pub before : List Line
  pub lines : AreLines ls 3 from before
  pub line : Line
  pub is : IsLine ls from to line
  pub shared : is_local line ≡ false
  pub deep : MAX_TYPE_DEPTH < line_depth line

-- why a text is refused: want of memory, a line whose type is too deep, or no signature, where no line before the fault is too deep
abbrev pub IsSignatureRefusal : (ℕ → Spot) → List Lexeme → SyntaxFault → Type 0
IsSignatureRefusal spot ls f = (f ≡ fault.Memory) ⊎ (((f ≡ fault.Limit Nesting) × HasDeepLine ls) ⊎ (SignatureFault spot ls f × (HasDeepLine ls → ⊥)))

-- these lines are given where none is too deep, unless memory is wanting
abbrev pub IsGivenLines : (ℕ → Spot) → List Lexeme → List Line → Result SignatureText SyntaxFault → Type 0
IsGivenLines spot ls ds (Ok text) = AreShown spot text.lines.items ds × All LineFits ds
IsGivenLines spot ls ds (Err f) = (f ≡ fault.Memory) ⊎ ((f ≡ fault.Limit Nesting) × (All LineFits ds → ⊥))

-- the keyword of a header
abbrev pub title : Bool → Keyword
title true = keyword.Sig
title false = keyword.Module

-- a line that is handed out
pub record IsLineText (spot : ℕ → Spot) (ls : List Lexeme) (i j : ℕ) (d : Declaration) : Type 0 where
  pub line : Line
  pub is : IsLine ls i j line
  pub shared : is_local line ≡ false
  pub shown : IsShown spot d line
  pub fits : LineFits line

abbrev pub IsShared : List Lexeme → ℕ → Type 0
IsShared ls i = (k : Keyword) → class_at ls i ≡ class.Keyword k → is_local_word k ≡ false

-- why a line is refused
abbrev pub IsDeepLine : List Lexeme → ℕ → SyntaxFault → Type 0
IsDeepLine ls i f = (f ≡ fault.Limit Nesting) × ((j : ℕ) × (l : Line) × IsLine ls i j l × (is_local l ≡ false) × (MAX_TYPE_DEPTH < line_depth l))

abbrev pub IsLocalThere : (ℕ → Spot) → List Lexeme → ℕ → SyntaxFault → Type 0
IsLocalThere spot ls i f = (k : Keyword) × (class_at ls i ≡ class.Keyword k) × (is_local_word k ≡ true) × (f ≡ refused spot i None (class_at ls i))

abbrev pub IsLineRefusal : (ℕ → Spot) → List Lexeme → ℕ → SyntaxFault → Type 0
IsLineRefusal spot ls i f = (f ≡ fault.Memory) ⊎ (IsDeepLine ls i f ⊎ ((IsShared ls i × StopsIn spot ls AtStart i f) ⊎ IsLocalThere spot ls i f))

-- the lines up to a token are these
pub record LinesRead (spot : ℕ → Spot) (ls : List Lexeme) (i : ℕ) (ds : List Declaration) : Type 0 where
  pub before : List Line
  pub lines : AreLines ls 3 i before
  pub shown : AreShown spot ds before
  pub fit : All LineFits before
