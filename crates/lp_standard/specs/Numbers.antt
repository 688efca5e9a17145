-- The numbers of the constants that the language fixes.
use Rattle.std.specs.Prelude.{ℕ}

abbrev pub And : ℕ
And = 0

abbrev pub Or : ℕ
Or = 1

abbrev pub Implies : ℕ
Implies = 2

abbrev pub If : ℕ
If = 3

abbrev pub ForAll : ℕ
ForAll = 4

abbrev pub Exists : ℕ
Exists = 5

abbrev pub True : ℕ
True = 6

abbrev pub Cut : ℕ
Cut = 7

abbrev pub Equal : ℕ
Equal = 8

abbrev pub Is : ℕ
Is = 9

abbrev pub Less : ℕ
Less = 10

abbrev pub Greater : ℕ
Greater = 11

abbrev pub AtMost : ℕ
AtMost = 12

abbrev pub AtLeast : ℕ
AtLeast = 13

abbrev pub Cons : ℕ
Cons = 14

abbrev pub Nil : ℕ
Nil = 15

abbrev pub Add : ℕ
Add = 16

abbrev pub Subtract : ℕ
Subtract = 17

abbrev pub Multiply : ℕ
Multiply = 18

abbrev pub Divide : ℕ
Divide = 19

abbrev pub Remainder : ℕ
Remainder = 20

abbrev pub Negate : ℕ
Negate = 21

abbrev pub Concatenate : ℕ
Concatenate = 22

abbrev pub Size : ℕ
Size = 23

abbrev pub Not : ℕ
Not = 24

abbrev pub Print : ℕ
Print = 25
