-- Terms, the beginnings of terms, and where a fault is.
use Rattle.std.specs.Prelude.{◌≡◌, Bool, List, [], ◌∷◌, ◌++◌}
use Rattle.lp_syntax.specs.declared.symbol.Sym.{Sym}
use Rattle.lp_syntax.specs.Symbols.{Tree, Form}
use Rattle.lp_syntax.specs.Grammar.{Part, Derives}

-- a term of the grammar, open or closed, of any number
pub record IsTerm (ts : List Sym) (t : Tree) : Type 0 where
  pub open_end : Bool
  pub form : Form
  pub derives : Derives (Part open_end form) ts t

-- some text in the grammar begins so
pub record Begins (ts : List Sym) : Type 0 where
  pub after : List Sym
  pub tree : Tree
  pub whole : IsTerm (ts ++ after) tree

-- the fault is at the first token such that no text in the grammar begins with the tokens up to it
pub record FaultAt (ts : List Sym) (rest : List Sym) : Type 0 where
  pub before : List Sym
  pub token : Sym
  pub after : List Sym
  pub there : rest ≡ token ∷ after
  pub text : ts ≡ before ++ rest
  pub viable : Begins before
  pub first : Begins (before ++ token ∷ []) → ⊥
