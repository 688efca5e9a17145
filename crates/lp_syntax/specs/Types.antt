-- The grammar of types, for the tokens from one number up to another.
use Rattle.std.specs.Prelude.{◌≡◌, ℕ, suc, List}
use Rattle.lp_syntax.specs.declared.class.Class.TheVariants.{Lower, Upper, Open, Close, Arrow}
use Rattle.lp_syntax.specs.Tokens.{Lexeme, class_at}

-- the trees of types, whose words are the numbers of tokens
pub data TypeTree : Type 0 where
  Named : ℕ → TypeTree
  Applied : TypeTree → TypeTree → TypeTree
  Arrows : TypeTree → TypeTree → TypeTree

pub data Level : Type 0 where
  -- an argument of a kind
  Argument : Level
  -- a kind or an abbreviation with its arguments
  Head : Level
  -- the left side of an arrow
  Side : Level
  Whole : Level

pub data IsType (ls : List Lexeme) : Level → ℕ → ℕ → TypeTree → Type 0 where
  -- a kind, a variable, and a type in brackets
  word : (i : ℕ) → class_at ls i ≡ Lower → IsType ls Argument i (suc i) (Named i)
  variable : (i : ℕ) → class_at ls i ≡ Upper → IsType ls Argument i (suc i) (Named i)
  group : (i j : ℕ) (t : TypeTree) → class_at ls i ≡ Open → IsType ls Whole (suc i) j t → class_at ls j ≡ Close → IsType ls Argument i (suc j) t
  -- a kind on arguments
  head : (i : ℕ) → class_at ls i ≡ Lower → IsType ls Head i (suc i) (Named i)
  applied : (i j k : ℕ) (t u : TypeTree) → IsType ls Head i j t → IsType ls Argument j k u → IsType ls Head i k (Applied t u)
  -- arrows group to the right
  side_head : (i j : ℕ) (t : TypeTree) → IsType ls Head i j t → IsType ls Side i j t
  side_argument : (i j : ℕ) (t : TypeTree) → IsType ls Argument i j t → IsType ls Side i j t
  target : (i j : ℕ) (t : TypeTree) → IsType ls Side i j t → IsType ls Whole i j t
  arrow : (i j k : ℕ) (t u : TypeTree) → IsType ls Side i j t → class_at ls j ≡ Arrow → IsType ls Whole (suc j) k u → IsType ls Whole i k (Arrows t u)
