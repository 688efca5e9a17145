-- How far the reader of terms is in a text.
use Rattle.std.specs.Prelude.{◌≡◌, ◌≢◌, ℕ, ◌<◌, ◌≤◌, ◌+◌, List, [], ◌++◌, length, ◌⊎◌, Some}
use Rattle.lp_base.specs.declared.place.Spot.{Spot}
use Rattle.lp_syntax.specs.declared.class.Class.TheVariants.{Backslash, Dot}
use Rattle.lp_syntax.specs.declared.fault.SyntaxFault.{SyntaxFault}
use Rattle.lp_syntax.specs.declared.held.Doing.{Doing}
use Rattle.lp_syntax.specs.declared.held.Doing.TheVariants as doing
use Rattle.lp_syntax.specs.declared.symbol.Sym.{Sym}
use Rattle.lp_syntax.specs.declared.term.Reader.{Reader}
use Rattle.lp_syntax.specs.declared.term.TermText.{TermText}
use Rattle.lp_syntax.specs.Symbols.{Tree}
use Rattle.lp_syntax.specs.Machine.{State, Wants, st, run, Reached}
use Rattle.lp_syntax.specs.Nodes.{trees, IsOrdered}
use Rattle.lp_syntax.specs.Raw.{Shows}
use Rattle.lp_syntax.specs.Depth.{IsDepth}
use Rattle.lp_syntax.specs.Views.{frames_of, mode_of, EachBelow, IsDoingBelow}
use Rattle.lp_syntax.specs.Tokens.{Lexeme, Operators, class_at, open_brackets}
use Rattle.lp_syntax.specs.Terms.{Spells, TermAt}
use Rattle.lp_syntax.specs.Faults.{refused, innermost}
use Rattle.lp_syntax.specs.TypeMachine.{TypeState, Ends, Runs, ts, type_step, IsHalt, Wants as NeedsType}

-- the tokens up to this one bring it to this state
pub record HasRead (ops : Operators) (ls : List Lexeme) (from n : ℕ) (s : State) : Type 0 where
  pub symbols : List Sym
  pub spells : Spells ops ls from n symbols
  pub runs : run (st [] Wants) symbols ≡ Reached s

-- an annotation that is none, up to where its type halts
abbrev pub IsNoNote : List Lexeme → ℕ → TypeState → Type 0
IsNoNote ls p q = IsHalt (type_step q (class_at ls p)) × (type_step q (class_at ls p) ≡ Ends → class_at ls p ≢ Backslash)

-- why there is no annotation behind a colon, where these brackets are open
pub record NoteFault (spot : ℕ → Spot) (ls : List Lexeme) (bs : List ℕ) (colon : ℕ) (f : SyntaxFault) : Type 0 where
  pub number : ℕ
  pub state : TypeState
  pub low : colon < number
  pub high : number ≤ length ls
  pub runs : Runs ls (ts [] NeedsType) (colon + 1) state number
  pub none : IsNoNote ls number state
  pub kind : f ≡ refused spot number (innermost (bs ++ open_brackets ls (colon + 1) number)) (class_at ls number)

abbrev pub state_of : Reader → Doing → State
state_of r d = st (frames_of (trees r.nodes.items) r.frames.items) (mode_of (trees r.nodes.items) d)

-- what holds of the reader before a token
pub record IsReading (ops : Operators) (ls : List Lexeme) (r : Reader) (d : Doing) (at : ℕ) : Type 0 where
  pub ordered : IsOrdered r.nodes.items
  pub frames : EachBelow (length r.nodes.items) r.frames.items
  pub due : IsDoingBelow (length r.nodes.items) d
  pub low : r.from ≤ at
  pub high : at ≤ length ls
  pub read : HasRead ops ls r.from at (state_of r d)
  pub inner : r.opens.items ≡ open_brackets ls r.from at

-- nothing is read yet
abbrev pub IsNew : Reader → Type 0
IsNew r = (r.nodes.items ≡ []) × (r.frames.items ≡ []) × (r.opens.items ≡ [])

-- a word that may be bound was read
abbrev pub MayBind : Doing → Type 0
MayBind (doing.Has fn x (Some w)) = Unit {0}
MayBind _ = ⊥

-- where a term ends
abbrev pub IsOver : List Lexeme → ℕ → Type 0
IsOver ls at = (at ≡ length ls) ⊎ (class_at ls at ≡ Dot)

-- what is handed out of a term: its nodes are the tree that the grammar gives, and its first token has the spot `first`
pub record IsTermText (spot : ℕ → Spot) (ops : Operators) (ls : List Lexeme) (from : ℕ) (text : TermText) : Type 0 where
  pub tree : Tree
  pub term : TermAt ops ls from text.end tree
  pub nodes : Shows spot ls text.term.nodes.items text.term.root tree
  pub first : text.term.first ≡ spot from
  pub depth : IsDepth ls tree text.depth
