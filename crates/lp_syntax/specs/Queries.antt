-- Queries: their trees and their faults.
use Rattle.std.specs.Prelude.{◌≡◌, ℕ, suc, ◌<◌, ◌≤◌, ◌⊎◌, List, length, Result, Ok, Err}
use Rattle.lp_base.specs.declared.place.Spot.{Spot}
use Rattle.lp_syntax.specs.declared.class.Class.TheVariants.{Dot}
use Rattle.lp_base.specs.declared.limit.Limit.TheVariants.{Nesting}
use Rattle.lp_syntax.specs.declared.fault.SyntaxFault.{SyntaxFault}
use Rattle.lp_syntax.specs.declared.fault.SyntaxFault.TheVariants as fault
use Rattle.lp_syntax.specs.declared.text.RawQuery.{RawQuery}
use Rattle.lp_syntax.specs.Symbols.{Tree}
use Rattle.lp_syntax.specs.Tokens.{Lexeme, Operators, class_at, Agree}
use Rattle.lp_syntax.specs.Terms.{TermAt, IsKind}
use Rattle.lp_syntax.specs.Raw.{Shows}
use Rattle.lp_syntax.specs.Depth.{TermFits, TermTooDeep}

-- a term, and a full stop that may be left out
pub record IsQuery (ops : Operators) (ls : List Lexeme) (t : Tree) : Type 0 where
  pub end : ℕ
  pub term : TermAt ops ls 0 end t
  pub rest : (end ≡ length ls) ⊎ ((class_at ls end ≡ Dot) × (suc end ≡ length ls))

-- some query begins with the tokens below this number
pub record QueryBegins (ops : Operators) (ls : List Lexeme) (n : ℕ) : Type 0 where
  pub text : List Lexeme
  pub agrees : Agree n ls text
  pub tree : Tree
  pub query : IsQuery ops text tree

-- the fault of a text that is no query is at the first token such that no query begins with the tokens up to it, the end of the text
-- counted as a token
pub record QueryFault (spot : ℕ → Spot) (ops : Operators) (ls : List Lexeme) (f : SyntaxFault) : Type 0 where
  pub number : ℕ
  pub high : number ≤ length ls
  pub viable : QueryBegins ops ls number
  pub first : number < length ls → QueryBegins ops ls (suc number) → ⊥
  pub none : (t : Tree) → IsQuery ops ls t → ⊥
  pub kind : IsKind spot ops ls 0 number f

-- a query that is handed out: its nodes are its tree, which is not too deep
pub record IsQueryText (spot : ℕ → Spot) (ops : Operators) (ls : List Lexeme) (query : RawQuery) : Type 0 where
  pub tree : Tree
  pub is : IsQuery ops ls tree
  pub nodes : Shows spot ls query.term.nodes.items query.term.root tree
  pub first : query.term.first ≡ spot 0
  pub fits : TermFits ls tree

-- why a text is refused: want of memory, a query that is too deep, or no query
abbrev pub IsQueryRefusal : (ℕ → Spot) → Operators → List Lexeme → SyntaxFault → Type 0
IsQueryRefusal spot ops ls f = (f ≡ fault.Memory) ⊎ (((f ≡ fault.Limit Nesting) × ((t : Tree) × IsQuery ops ls t × TermTooDeep ls t)) ⊎ QueryFault spot ops ls f)

-- this tree is given where it is not too deep, unless memory is wanting
abbrev pub IsGiven : (ℕ → Spot) → List Lexeme → Tree → Result RawQuery SyntaxFault → Type 0
IsGiven spot ls t (Ok query) = Shows spot ls query.term.nodes.items query.term.root t × TermFits ls t
IsGiven spot ls t (Err f) = (f ≡ fault.Memory) ⊎ ((f ≡ fault.Limit Nesting) × TermTooDeep ls t)
