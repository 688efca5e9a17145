-- The trees of terms, whose leaves are the numbers of tokens, and what fits beside an operator. A binder has the number of its annotation.
use Rattle.lp_standard.specs.declared.fixity.Fixity.{Fixity}
use Rattle.lp_standard.specs.declared.fixity.Fixity.TheVariants.{Infixr}
use Rattle.lp_syntax.specs.declared.symbol.Oper.{Oper}
use Rattle.std.specs.Prelude.{ℕ, Bool, true, false, ◌&&◌, nat_eq, nat_le, Option, Some, None}
pub use Rattle.lp_standard.specs.Operands.{Form, Whole, By, is_left, is_right, is_prefix, is_postfix}
unfoldable pub use Rattle.lp_standard.specs.Operands.{fits_left, fits_right}

pub data Tree : Type 0 where
  Leaf : ℕ → Tree
  Cons : ℕ → Tree
  Nil : ℕ → Tree
  App : Tree → Tree → Tree
  Lam : ℕ → Option ℕ → Tree → Tree

abbrev pub is_infixr : Fixity → Bool
is_infixr Infixr = true
is_infixr _ = false

-- the comma, which may separate items
unfoldable pub separates : Oper → Bool
separates o = o.comma && nat_eq o.number 110 && is_infixr o.fixity

-- a term of this form may be an item of a list
unfoldable pub is_item : Form → Bool
is_item Whole = true
is_item (By g k) = nat_le 111 k

abbrev pub apply : Option Tree → Tree → Tree
apply None x = x
apply (Some f) x = App f x

abbrev pub binary : ℕ → Tree → Tree → Tree
binary s l r = App (App (Leaf s) l) r

abbrev pub cons : ℕ → Tree → Tree → Tree
cons s x t = App (App (Cons s) x) t
