-- Programs and queries of worked searches.
use Rattle.lp_calculus.specs.Term.{Term, abs, app, atom, constant, index, integer, logic, text}
use Rattle.lp_calculus.specs.Types.{Ty, arrow, var}
use Rattle.lp_calculus.specs.Typing.{Scheme, int_type, list_type, o_type, string_type}
use Rattle.lp_model.specs.Flatten.{ClauseFormula}
use Rattle.lp_search_laws.specs.Worked.{conj, declares, fact, impl, kind, known, on, on2, plain_type}
use Rattle.lp_standard.specs.Connectives.{pi_of, sigma_of, two}
use Rattle.std.specs.Prelude.{List, Option, Some, [], pos, ℕ, ◌∷◌}

abbrev pub x : ℕ → Term
x i = index i

abbrev pub free : ℕ → Term
free i = atom (logic i 0)

-- module hyp: q 32
abbrev pub hyp : ℕ → Option Scheme
hyp = declares (plain_type (arrow (kind 8) o_type) ∷ [])

-- module e
abbrev pub empty : ℕ → Option Scheme
empty = declares []

-- module fun: a 32, f 33
abbrev pub fun : ℕ → Option Scheme
fun = declares (plain_type (kind 8) ∷ plain_type (arrow (kind 8) (arrow (kind 8) (kind 8))) ∷ [])

abbrev pub i : Ty
i = kind 8

abbrev pub eq : Term → Term → Term
eq t u = two 8 (i ∷ []) t u

-- sigma F\ sigma Z\ sigma W\ (X = F Z W, Y = F W Z), where Z and W are of the type T
abbrev pub both_ways : Ty → Term
both_ways T = sigma_of (arrow T (arrow T i)) (abs (sigma_of T (abs (sigma_of T (abs (conj (eq (x 4) (app (app (x 2) (x 1)) (x 0))) (eq (x 3) (app (app (x 2) (x 0)) (x 1)))))))))

-- module stlc: abs 32, app 33, arr 34, of 35; tm 8, ty 9
abbrev pub stlc : ℕ → Option Scheme
stlc = declares (plain_type (arrow (arrow (kind 8) (kind 8)) (kind 8)) ∷ plain_type (arrow (kind 8) (arrow (kind 8) (kind 8))) ∷ plain_type (arrow (kind 9) (arrow (kind 9) (kind 9))) ∷ plain_type (arrow (kind 8) (arrow (kind 9) o_type)) ∷ [])

abbrev pub every : Ty → Term → Term
every T t = pi_of T (abs t)

abbrev pub of_app : Term
of_app = two 3 [] (on2 35 (on2 33 (x 3) (x 2)) (x 1)) (conj (on2 35 (x 3) (on2 34 (x 0) (x 1))) (on2 35 (x 2) (x 0)))

abbrev pub of_abs : Term
of_abs = two 3 [] (on2 35 (on 32 (x 2)) (on2 34 (x 1) (x 0))) (every (kind 8) (impl (on2 35 (x 0) (x 2)) (on2 35 (app (x 3) (x 0)) (x 1))))

abbrev pub of_rules : List ClauseFormula
of_rules =
    fact (every (kind 8) (every (kind 8) (every (kind 9) (every (kind 9) of_app))))
    ∷ fact (every (arrow (kind 8) (kind 8)) (every (kind 9) (every (kind 9) of_abs)))
    ∷ []

-- module poly: ints 32, strs 33, tag 34
abbrev pub poly : ℕ → Option Scheme
poly = declares (plain_type (arrow (list_type int_type) o_type) ∷ plain_type (arrow (list_type string_type) o_type) ∷ Some (record { count = 1; body = arrow (list_type (var 0)) (arrow string_type o_type) }) ∷ [])

abbrev pub nil : Ty → Term
nil T = atom (constant 15 (T ∷ []))

abbrev pub tag : Ty → Term → Term → Term
tag T t u = app (app (atom (constant 34 (T ∷ []))) t) u

-- "ints" and "strings" by their bytes
abbrev pub ints_text : Term
ints_text = atom (text (105 ∷ 110 ∷ 116 ∷ 115 ∷ []))

abbrev pub strings_text : Term
strings_text = atom (text (115 ∷ 116 ∷ 114 ∷ 105 ∷ 110 ∷ 103 ∷ 115 ∷ []))

abbrev pub tags : List ClauseFormula
tags =
    fact (on 32 (nil int_type))
    ∷ fact (on 33 (nil string_type))
    ∷ fact (pi_of (list_type int_type) (abs (two 3 [] (tag int_type (x 0) ints_text) (on 32 (x 0)))))
    ∷ fact (pi_of (list_type string_type) (abs (two 3 [] (tag string_type (x 0) strings_text) (on 33 (x 0)))))
    ∷ []

-- module loop: r 32, q 33
abbrev pub loop : ℕ → Option Scheme
loop = declares (plain_type o_type ∷ plain_type o_type ∷ [])

abbrev pub loop_rules : List ClauseFormula
loop_rules = fact (two 3 [] (known 32) (known 32)) ∷ fact (known 33) ∷ []

abbrev pub ten : Term
ten = conj (known 33) (conj (known 33) (conj (known 33) (conj (known 33) (conj (known 33) (conj (known 33) (conj (known 33) (conj (known 33) (conj (known 33) (known 33)))))))))

-- module once: a 32, b 33, p 34, one 35
abbrev pub once : ℕ → Option Scheme
once = declares (plain_type i ∷ plain_type i ∷ plain_type (arrow i o_type) ∷ plain_type (arrow i o_type) ∷ [])

abbrev pub once_rules : List ClauseFormula
once_rules =
    fact (on 34 (known 32))
    ∷ fact (on 34 (known 33))
    ∷ fact (pi_of i (abs (two 3 [] (on 35 (x 0)) (conj (on 34 (x 0)) (known 7)))))
    ∷ []

-- arithmetic
abbrev pub int : ℕ → Term
int n = atom (integer (pos n))

abbrev pub is : Ty → Term → Term → Term
is T t u = two 9 (T ∷ []) t u

-- X is ~ 7 div 2, Y is ~ 7 mod 2, S is "ab" ^ "c", N is size S
abbrev pub minus_seven : Term
minus_seven = app (known 21) (int 7)

abbrev pub calculation : Term
calculation =
    conj (is int_type (x 3) (two 19 [] minus_seven (int 2))) (conj (is int_type (x 2) (two 20 [] minus_seven (int 2))) (conj (is string_type (x 1) (two 22 [] (atom (text (97 ∷ 98 ∷ []))) (atom (text (99 ∷ []))))) (is int_type (x 0) (app (known 23) (x 1)))))

-- module lists: append 32
abbrev pub lists : ℕ → Option Scheme
lists = declares (Some (record { count = 1; body = arrow (list_type (var 0)) (arrow (list_type (var 0)) (arrow (list_type (var 0)) o_type)) }) ∷ [])

abbrev pub cons : Ty → Term → Term → Term
cons T t u = two 14 (T ∷ []) t u

abbrev pub append : Ty → Term → Term → Term → Term
append T t u v = app (two 32 (T ∷ []) t u) v

abbrev pub appends : List ClauseFormula
appends =
    record { type_vars = 1; formula = every (list_type (var 0)) (append (var 0) (nil (var 0)) (x 0) (x 0)) }
    ∷ record { type_vars = 1; formula = every (var 0) (every (list_type (var 0)) (every (list_type (var 0)) (every (list_type (var 0)) (two 3 [] (append (var 0) (cons (var 0) (x 3) (x 2)) (x 1) (cons (var 0) (x 3) (x 0))) (append (var 0) (x 2) (x 1) (x 0)))))) }
    ∷ []

-- a cut is local to its clause: r X :- p X, s.  s :- !.  s.  with r 35 and s 36
abbrev pub local : ℕ → Option Scheme
local = declares (plain_type i ∷ plain_type i ∷ plain_type (arrow i o_type) ∷ plain_type (arrow i o_type) ∷ plain_type o_type ∷ [])

abbrev pub local_rules : List ClauseFormula
local_rules =
    fact (on 34 (known 32))
    ∷ fact (on 34 (known 33))
    ∷ fact (every i (two 3 [] (on 35 (x 0)) (conj (on 34 (x 0)) (known 36))))
    ∷ fact (two 3 [] (known 36) (known 7))
    ∷ fact (known 36)
    ∷ []
