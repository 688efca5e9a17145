-- Small texts with their typings, and how a typing comes of what solving gives.
use Rattle.std.specs.Prelude.{ℕ, List, Option, Some, None}
use Rattle.lp_calculus.specs.Types.{Ty, var, arrow}
use Rattle.lp_calculus.specs.Term.{Term, atom, constant}
use Rattle.lp_calculus.specs.Typing.{Scheme, o_type, int_type, string_type, list_type}
use Rattle.lp_type_laws.specs.Solving.{Outcome, unfinished, fails, solved, solve}
use Rattle.lp_infer.specs.Typing.{Raw, raw_constant, Typing}
use Rattle.lp_infer.specs.Generate.{Made, generated, typing_under}

abbrev pub typed_by : (names : ℕ) → Made → Outcome → Option Typing
typed_by names m unfinished = None
typed_by names m fails = None
typed_by names m (solved θ) = Some (typing_under θ names 0 m)

-- the typing of a text without annotations' type variables, where it is found within 50 equations
abbrev pub typed : (names : ℕ) → Raw → Option Typing
typed names R = typed_by names (generated R names 0) (solve 50 (generated R names 0).equations var)

abbrev pub scheme : ℕ → Ty → Scheme
scheme n T = record { count = n; body = T }

-- type p list A -> o. type q A -> o. type r list int -> list string -> o.
abbrev pub p : Raw
p = raw_constant 32 (scheme 1 (arrow (list_type (var 0)) o_type))

abbrev pub q : Raw
q = raw_constant 33 (scheme 1 (arrow (var 0) o_type))

abbrev pub r : Raw
r = raw_constant 34 (scheme 0 (arrow (list_type int_type) (arrow (list_type string_type) o_type)))

abbrev pub nil : Raw
nil = raw_constant 15 (scheme 1 (list_type (var 0)))

abbrev pub cons : Raw
cons = raw_constant 14 (scheme 1 (arrow (var 0) (arrow (list_type (var 0)) (list_type (var 0)))))

abbrev pub at : ℕ → List Ty → Term
at c Ts = atom (constant c Ts)

abbrev pub typing : List Ty → Term → Typing
typing Ts t = record { free = Ts; formula = t }
