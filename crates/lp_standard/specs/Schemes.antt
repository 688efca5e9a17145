-- The types of the constants that the language fixes.
use Rattle.std.specs.Prelude.{◌≡◌, ℕ, zero, suc, ◌<◌, List, [], ◌∷◌, Option, Some, None, map}
use Rattle.lp_calculus.specs.Types.{Ty, var, arrow}
use Rattle.lp_calculus.specs.Typing.{Scheme, o_type, int_type, string_type, list_type}
use Rattle.lp_standard.specs.declared.constant.Constant.{Constant}
use Rattle.lp_standard.specs.declared.constant.Constant.TheVariants.{And, Or, Implies, If, ForAll, Exists, True, Cut, Equal, Is, Less, Greater, AtMost, AtLeast, Cons, Nil, Add, Subtract, Multiply, Divide, Remainder, Negate, Concatenate, Size, Not, Print}
use Rattle.lp_standard.specs.declared.shape.Part.{Part}
use Rattle.lp_standard.specs.declared.shape.Part.TheVariants.{Proposition, Integer, String, Any, ListOfAny, Predicate}
use Rattle.lp_standard.specs.declared.shape.Shape.{Shape}
use Rattle.lp_standard.specs.declared.shape.Shape.TheVariants.{Value, Function, Operation}
use Rattle.lp_standard.specs.Constants.{language, first_declared}

abbrev pub plain : Ty → Option Scheme
plain T = Some (record { count = 0; body = T })

-- over one type variable
abbrev pub over_one : Ty → Option Scheme
over_one T = Some (record { count = 1; body = T })

abbrev pub on_two : Ty → Ty → Ty
on_two T U = arrow T (arrow T U)

-- the declared type of a constant; `print`, which is only kept, has none
abbrev pub scheme : Constant → Option Scheme
scheme And = plain (on_two o_type o_type)
scheme Or = plain (on_two o_type o_type)
scheme Implies = plain (on_two o_type o_type)
scheme If = plain (on_two o_type o_type)
scheme ForAll = over_one (arrow (arrow (var 0) o_type) o_type)
scheme Exists = over_one (arrow (arrow (var 0) o_type) o_type)
scheme True = plain o_type
scheme Cut = plain o_type
scheme Equal = over_one (on_two (var 0) o_type)
scheme Is = over_one (on_two (var 0) o_type)
scheme Less = plain (on_two int_type o_type)
scheme Greater = plain (on_two int_type o_type)
scheme AtMost = plain (on_two int_type o_type)
scheme AtLeast = plain (on_two int_type o_type)
scheme Cons = over_one (arrow (var 0) (arrow (list_type (var 0)) (list_type (var 0))))
scheme Nil = over_one (list_type (var 0))
scheme Add = plain (on_two int_type int_type)
scheme Subtract = plain (on_two int_type int_type)
scheme Multiply = plain (on_two int_type int_type)
scheme Divide = plain (on_two int_type int_type)
scheme Remainder = plain (on_two int_type int_type)
scheme Negate = plain (arrow int_type int_type)
scheme Concatenate = plain (on_two string_type string_type)
scheme Size = plain (arrow string_type int_type)
scheme Not = plain (arrow o_type o_type)
scheme Print = None

-- those of the language, in the order of their numbers
abbrev pub standard_schemes : List (Option Scheme)
standard_schemes = map scheme language

abbrev pub entry : List (Option Scheme) → ℕ → Option Scheme
entry [] c = None
entry (s ∷ ss) zero = s
entry (s ∷ ss) (suc c) = entry ss c

-- the constants of the language have their types, and no other has one below the first declared one
pub record IsStandard (d : ℕ → Option Scheme) : Type 0 where
  pub at : (c : ℕ) → c < first_declared → d c ≡ entry standard_schemes c

-- the types as the code tells them. The type variable `A` has the number 0

abbrev pub part_type : Part → Ty
part_type Proposition = o_type
part_type Integer = int_type
part_type String = string_type
part_type Any = var 0
part_type ListOfAny = list_type (var 0)
part_type Predicate = arrow (var 0) o_type

abbrev pub shape_type : Shape → Ty
shape_type (Value t) = part_type t
shape_type (Function t u) = arrow (part_type t) (part_type u)
shape_type (Operation t u v) = arrow (part_type t) (arrow (part_type u) (part_type v))

-- how many type variables a type has, by its first part
abbrev pub part_variables : Part → ℕ
part_variables Proposition = 0
part_variables Integer = 0
part_variables String = 0
part_variables Any = 1
part_variables ListOfAny = 1
part_variables Predicate = 1

abbrev pub shape_variables : Shape → ℕ
shape_variables (Value t) = part_variables t
shape_variables (Function t u) = part_variables t
shape_variables (Operation t u v) = part_variables t

abbrev pub shape_scheme : Shape → Scheme
shape_scheme s = record { count = shape_variables s; body = shape_type s }
