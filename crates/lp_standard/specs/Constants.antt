-- The constants that the language fixes: numbers, names, fixities and types.
use Rattle.std.specs.Prelude.{ℕ, List, [], ◌∷◌, ◌++◌, ◌≤◌, Bool, ◌&&◌, Option, Some, None, codes, slice_get, nat_le}
use Rattle.std.specs.Str.{bytes_eq}
use Rattle.std.specs.List.{find}
use Rattle.lp_standard.specs.declared.fixity.Fixity.{Fixity}
use Rattle.lp_standard.specs.declared.fixity.Fixity.TheVariants.{Infix, Infixl, Infixr, Prefix}
use Rattle.lp_standard.specs.declared.constant.Constant.{Constant}
use Rattle.lp_standard.specs.declared.constant.Constant.TheVariants.{And, Or, Implies, If, ForAll, Exists, True, Cut, Equal, Is, Less, Greater, AtMost, AtLeast, Cons, Nil, Add, Subtract, Multiply, Divide, Remainder, Negate, Concatenate, Size, Not, Print}
use Rattle.lp_standard.specs.Numbers as numbers

abbrev pub number : Constant → ℕ
number And = numbers.And
number Or = numbers.Or
number Implies = numbers.Implies
number If = numbers.If
number ForAll = numbers.ForAll
number Exists = numbers.Exists
number True = numbers.True
number Cut = numbers.Cut
number Equal = numbers.Equal
number Is = numbers.Is
number Less = numbers.Less
number Greater = numbers.Greater
number AtMost = numbers.AtMost
number AtLeast = numbers.AtLeast
number Cons = numbers.Cons
number Nil = numbers.Nil
number Add = numbers.Add
number Subtract = numbers.Subtract
number Multiply = numbers.Multiply
number Divide = numbers.Divide
number Remainder = numbers.Remainder
number Negate = numbers.Negate
number Concatenate = numbers.Concatenate
number Size = numbers.Size
number Not = numbers.Not
number Print = numbers.Print

abbrev pub name : Constant → List ℕ
name And = codes ","
name Or = codes ";"
name Implies = codes "=>"
name If = codes ":-"
name ForAll = codes "pi"
name Exists = codes "sigma"
name True = codes "true"
name Cut = codes "!"
name Equal = codes "="
name Is = codes "is"
name Less = codes "<"
name Greater = codes ">"
name AtMost = codes "=<"
name AtLeast = codes ">="
name Cons = codes "::"
name Nil = codes "nil"
name Add = codes "+"
name Subtract = codes "-"
name Multiply = codes "*"
name Divide = codes "div"
name Remainder = codes "mod"
name Negate = codes "~"
name Concatenate = codes "^"
name Size = codes "size"
name Not = codes "not"
name Print = codes "print"

-- how it stands with its operands, if it is an operator: the greater number binds closer
abbrev pub fixity : Constant → Option (Fixity × ℕ)
fixity And = Some (Infixr, 110)
fixity Or = Some (Infixr, 100)
fixity Implies = Some (Infixr, 130)
fixity If = Some (Infixl, 1)
fixity ForAll = None
fixity Exists = None
fixity True = None
fixity Cut = None
fixity Equal = Some (Infix, 130)
fixity Is = Some (Infix, 130)
fixity Less = Some (Infix, 130)
fixity Greater = Some (Infix, 130)
fixity AtMost = Some (Infix, 130)
fixity AtLeast = Some (Infix, 130)
fixity Cons = Some (Infixr, 140)
fixity Nil = None
fixity Add = Some (Infixl, 150)
fixity Subtract = Some (Infixl, 150)
fixity Multiply = Some (Infixl, 160)
fixity Divide = Some (Infixl, 160)
fixity Remainder = Some (Infixl, 160)
fixity Negate = Some (Prefix, 200)
fixity Concatenate = Some (Infixl, 150)
fixity Size = None
fixity Not = None
fixity Print = None

abbrev pub connectives : List Constant
connectives = And ∷ Or ∷ Implies ∷ If ∷ ForAll ∷ Exists ∷ True ∷ Cut ∷ []

abbrev pub relations : List Constant
relations = Equal ∷ Is ∷ Less ∷ Greater ∷ AtMost ∷ AtLeast ∷ Cons ∷ Nil ∷ []

-- those of expressions, and `not`, which came to the language last
abbrev pub operations : List Constant
operations = Add ∷ Subtract ∷ Multiply ∷ Divide ∷ Remainder ∷ Negate ∷ Concatenate ∷ Size ∷ Not ∷ []

-- the constants of the language, in the order of their numbers
abbrev pub language : List Constant
language = (connectives ++ relations) ++ operations

-- the language has no word for it yet
abbrev pub reserved : List Constant
reserved = Print ∷ []

-- the constant of a number
abbrev pub numbered : ℕ → Option Constant
numbered n = slice_get (language ++ reserved) n

-- of these constants the one of a name
abbrev pub named_in : List Constant → List ℕ → Option Constant
named_in cs n = find (λ c. bytes_eq n (name c)) cs

-- the constant of the language that has a name
abbrev pub named : List ℕ → Option Constant
named n = named_in language n

-- the numbers of declared constants begin here
abbrev pub first_declared : ℕ
first_declared = 32

abbrev pub is_declared : ℕ → Bool
is_declared c = nat_le first_declared c

-- `<`, `>`, `=<` or `>=`
abbrev pub is_order : ℕ → Bool
is_order c = nat_le numbers.Less c && nat_le c numbers.AtLeast

abbrev pub IsOrder : ℕ → Type 0
IsOrder c = (numbers.Less ≤ c) × (c ≤ numbers.AtLeast)
