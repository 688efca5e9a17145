-- Shown text, computed: the worked rows on binders, operators, hidden constants, variables and `where` lines.
use Rattle.std.proofs.Common.{◌≡◌, ℕ, List, [], ◌∷◌, Some, None, refl}
use Rattle.std.specs.Prelude.{codes, pos, neg_ℤ}
use Rattle.std.specs.Fmt.{digits}
use Rattle.lp_standard.specs.Operands.{fits_left, fits_right}
use Rattle.lp_standard.specs.declared.fixity.Fixity.TheVariants.{Postfix, Prefixr}
use Rattle.lp_calculus.specs.Types.{var}
use Rattle.lp_calculus.specs.Term.{Term, index, atom, abs, app, constant, integer, text, logic, eigen}
use Rattle.lp_standard.specs.Connectives.{two}
use Rattle.lp_model.specs.Shown.{Entry, shown_term, shown_answer}

abbrev entry : ℕ → List ℕ → ℕ → Entry
entry c name k = record { number = c; name = name; hidden = k; fixity = None }

abbrev number : ℕ → Term
number n = atom (integer (pos n))

-- 1 :: 2 :: nil, and a list in a list
abbrev cons : Term → Term → Term
cons t u = two 14 (var 0 ∷ []) t u

abbrev nil : Term
nil = atom (constant 15 (var 0 ∷ []))

lists : shown_answer [] 1 (codes "X" ∷ []) (cons (number 1) (cons (number 2) nil) ∷ []) [] ≡ codes "answer 1\n  X = 1 :: 2 :: nil\n"
unfolding digits fits_left fits_right
lists = refl

list_in_list : shown_term [] (cons (cons (number 1) nil) nil) ≡ codes "(1 :: nil) :: nil"
unfolding digits fits_left fits_right
list_in_list = refl

-- f a a under a binder, and a constant named x1
abbrev fun : List Entry
fun = entry 32 (codes "f") 0 ∷ entry 33 (codes "a") 0 ∷ []

abbrev f : Term → Term → Term
f t u = app (app (atom (constant 32 [])) t) u

binders : shown_answer fun 1 (codes "F" ∷ []) (abs (f (index 0) (index 0)) ∷ []) [] ≡ codes "answer 1\n  F = x1\\ f x1 x1\n"
unfolding digits fits_left fits_right
binders = refl

past_constants : shown_term (entry 34 (codes "x1") 0 ∷ fun) (abs (abs (f (index 1) (index 0)))) ≡ codes "x2\\ x3\\ f x2 x3"
unfolding digits fits_left fits_right
past_constants = refl

hidden_take_no_name : shown_term (entry 34 (codes "x1") 1 ∷ fun) (abs (f (index 0) (atom (constant 34 [])))) ≡ codes "x1\\ f x1 x1$1"
unfolding digits fits_left fits_right
hidden_take_no_name = refl

-- variables by first place, `_` not shown, and a `where` line
variables : shown_answer [] 2 (codes "F" ∷ codes "_" ∷ codes "G" ∷ []) (abs (abs (app (app (atom (logic 7 0)) (index 0)) (index 1))) ∷ atom (logic 9 0) ∷ atom (logic 7 0) ∷ []) [] ≡ codes "answer 2\n  F = x1\\ x2\\ _1 x2 x1\n  G = _1\n"
unfolding digits fits_left fits_right
variables = refl

residual : shown_answer fun 1 (codes "F" ∷ []) (atom (logic 3 0) ∷ []) ((app (atom (logic 3 0)) (atom (constant 33 [])), atom (constant 33 [])) ∷ []) ≡ codes "answer 1\n  F = _1\n  where _1 a == a\n"
unfolding digits fits_left fits_right
residual = refl

sides : shown_answer fun 1 [] [] ((abs (index 0), two 16 [] (number 1) (number 2)) ∷ []) ≡ codes "answer 1\n  where (x1\\ x1) == (1 + 2)\n"
unfolding digits fits_left fits_right
sides = refl

-- arguments, operands and operators by themselves
arguments : shown_term fun (f (f (atom (constant 33 [])) (two 16 [] (number 1) (number 2))) (abs (index 0))) ≡ codes "f (f a (1 + 2)) (x1\\ x1)"
unfolding digits fits_left fits_right
arguments = refl

to_the_left : shown_term [] (two 17 [] (two 16 [] (number 1) (number 2)) (two 17 [] (number 3) (atom (integer (neg_ℤ (pos 4)))))) ≡ codes "1 + 2 - (3 - -4)"
unfolding digits fits_left fits_right
to_the_left = refl

by_itself : shown_term fun (f (atom (constant 16 [])) (app (atom (constant 21 [])) (number 1))) ≡ codes "f (+) (~ 1)"
unfolding digits fits_left fits_right
by_itself = refl

too_many : shown_term fun (app (two 16 [] (number 1) (number 2)) (number 3)) ≡ codes "(+) 1 2 3"
unfolding digits fits_left fits_right
too_many = refl

of_ones_own : shown_term (record { number = 40; name = codes "up"; hidden = 0; fixity = Some (Postfix, 10) } ∷ record { number = 41; name = codes "no"; hidden = 0; fixity = Some (Prefixr, 10) } ∷ []) (app (atom (constant 41 [])) (app (atom (constant 41 [])) (app (atom (constant 40 [])) (number 1)))) ≡ codes "no no (1 up)"
unfolding digits fits_left fits_right
of_ones_own = refl

literals : shown_term [] (two 22 [] (atom (text (codes "a\"b\\\n"))) (atom (eigen 2))) ≡ codes "\"a\\\"b\\\\\\n\" ^ #2"
unfolding digits fits_left fits_right
literals = refl
