-- Terms as tokens: what symbols a text has, its terms, and where a term has a fault.
use Rattle.std.specs.Prelude.{◌≡◌, ◌≢◌, ℕ, suc, ◌<◌, ◌≤◌, ◌⊎◌, false, List, [], ◌∷◌, ◌++◌, length, Some}
use Rattle.lp_base.specs.declared.place.Spot.{Spot}
use Rattle.lp_syntax.specs.declared.class.Class.TheVariants.{Colon, Backslash, Dot}
use Rattle.lp_syntax.specs.declared.fault.SyntaxFault.{SyntaxFault}
use Rattle.lp_syntax.specs.declared.fault.SyntaxFault.TheVariants as fault
use Rattle.lp_syntax.specs.declared.symbol.Sym.{Sym}
use Rattle.lp_syntax.specs.declared.symbol.Sym.TheVariants.{Binds, Op}
use Rattle.lp_syntax.specs.declared.symbol.Oper.{Oper}
use Rattle.lp_syntax.specs.Symbols.{Tree, is_prefix}
use Rattle.lp_syntax.specs.Opened.{AmbiguousAt}
use Rattle.lp_syntax.specs.Text.{IsTerm}
use Rattle.lp_syntax.specs.Tokens.{Lexeme, Operators, class_at, symbol_at, open_brackets, Agree}
use Rattle.lp_syntax.specs.Faults.{refused, innermost}
use Rattle.lp_syntax.specs.Types.{TypeTree, IsType, Whole}

-- the tokens from one number up to another are these symbols: an annotation with its backslash is one symbol, with the number of its colon
pub data Spells (ops : Operators) (ls : List Lexeme) : ℕ → ℕ → List Sym → Type 0 where
  done : (i : ℕ) → Spells ops ls i i []
  token : (i j : ℕ) (cs : List Sym) → class_at ls i ≢ Colon → Spells ops ls (suc i) j cs → Spells ops ls i j (symbol_at ops ls i ∷ cs)
  note : (i k j : ℕ) (t : TypeTree) (cs : List Sym) → class_at ls i ≡ Colon → IsType ls Whole (suc i) k t → class_at ls k ≡ Backslash → Spells ops ls (suc k) j cs → Spells ops ls i j (Binds (Some i) ∷ cs)

-- the tokens from one number up to another are a term with this tree
pub record TermAt (ops : Operators) (ls : List Lexeme) (from to : ℕ) (t : Tree) : Type 0 where
  pub symbols : List Sym
  pub spells : Spells ops ls from to symbols
  pub is : IsTerm symbols t

-- with other tokens from this one on, a term goes up to the end
pub record CanGoOn (ops : Operators) (ls : List Lexeme) (from n : ℕ) : Type 0 where
  pub text : List Lexeme
  pub agrees : Agree n ls text
  pub tree : Tree
  pub term : TermAt ops text from (length text) tree

-- no term goes over this token
abbrev pub NoneOver : Operators → List Lexeme → ℕ → ℕ → Type 0
NoneOver ops ls from n = (m : ℕ) (t : Tree) → n < m → TermAt ops ls from m t → ⊥

-- the token with this number is the first over which no term goes, whatever follows it; the end of a term it is not either
pub record StopsAt (ops : Operators) (ls : List Lexeme) (from n : ℕ) : Type 0 where
  pub low : from ≤ n
  pub high : n ≤ length ls
  pub viable : CanGoOn ops ls from n
  pub first : (text : List Lexeme) → Agree (suc n) ls text → NoneOver ops text from n
  pub none : (n ≡ length ls) ⊎ (class_at ls n ≡ Dot) → (t : Tree) → TermAt ops ls from n t → ⊥

-- the token is an infix or postfix operator behind an operand before which one of its number waits
pub record IsAmbiguous (ops : Operators) (ls : List Lexeme) (from n : ℕ) : Type 0 where
  pub symbols : List Sym
  pub spells : Spells ops ls from n symbols
  pub operator : Oper
  pub is : symbol_at ops ls n ≡ Op operator
  pub behind : is_prefix operator.fixity ≡ false
  pub there : AmbiguousAt (symbols ++ Op operator ∷ []) [] operator

-- which fault it is at this token
abbrev pub IsKind : (ℕ → Spot) → Operators → List Lexeme → ℕ → ℕ → SyntaxFault → Type 0
IsKind spot ops ls from n f =
    (IsAmbiguous ops ls from n × (f ≡ fault.Ambiguous (spot n)))
    ⊎ ((IsAmbiguous ops ls from n → ⊥) × (f ≡ refused spot n (innermost (open_brackets ls from n)) (class_at ls n)))

-- the fault of a term that begins at this token
pub record TermFault (spot : ℕ → Spot) (ops : Operators) (ls : List Lexeme) (from : ℕ) (f : SyntaxFault) : Type 0 where
  pub number : ℕ
  pub stops : StopsAt ops ls from number
  pub kind : IsKind spot ops ls from number f

abbrev pub MemoryOr : SyntaxFault → Type 0 → Type 0
MemoryOr f P = (f ≡ fault.Memory) ⊎ P
