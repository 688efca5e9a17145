-- The type equations of a text, with new type variables from a number on.
use Rattle.std.specs.Prelude.{ℕ, zero, suc, ◌+◌, ◌<◌, List, [], ◌∷◌, ◌++◌, map, Option, Some, None}
use Rattle.lp_calculus.specs.Types.{Ty, var, arrow, instance}
use Rattle.lp_calculus.specs.Term.{Term, index, atom, abs, app, constant, integer, text}
use Rattle.lp_calculus.specs.Typing.{o_type, int_type, string_type, type_at}
use Rattle.lp_type_laws.specs.Equations.{Equation, equation, Below}
use Rattle.lp_infer.specs.Typing.{Raw, raw_index, raw_constant, raw_integer, raw_text, raw_abs, raw_app, Typing, instance_term}

-- a term and its type, the equations under which it has this type, and the first type variable after its own
pub record Made : Type 0 where
  pub term : Term
  pub type_is : Ty
  pub equations : List Equation
  pub next : ℕ

-- n type variables from i on
abbrev pub fresh : ℕ → ℕ → List Ty
fresh zero i = []
fresh (suc n) i = var i ∷ fresh n (suc i)

abbrev pub given_equation : Option Ty → Ty → List Equation
given_equation None A = []
given_equation (Some given) A = equation A given ∷ []

abbrev pub made : Term → Ty → List Equation → ℕ → Made
made t A es n = record { term = t; type_is = A; equations = es; next = n }

-- an abstraction and an application of what was made
abbrev pub make_abs : Option Ty → ℕ → Made → Made
make_abs given n m = made (abs m.term) (arrow (var n) m.type_is) (given_equation given (var n) ++ m.equations) m.next

abbrev pub make_app : Made → Made → Made
make_app m k =
    made (app m.term k.term) (var k.next) ((m.equations ++ k.equations) ++ equation m.type_is (arrow k.type_is (var k.next)) ∷ []) (suc k.next)

-- the text, where the indices have the types C
abbrev pub generate : List Ty → Raw → ℕ → Made
generate C (raw_index i) n = made (index i) (type_at C i) [] n
generate C (raw_constant c s) n = made (atom (constant c (fresh s.count n))) (instance (type_at (fresh s.count n)) s.body) [] (n + s.count)
generate C (raw_integer z) n = made (atom (integer z)) int_type [] n
generate C (raw_text s) n = made (atom (text s)) string_type [] n
generate C (raw_abs given b) n = make_abs given n (generate (var n ∷ C) b (suc n))
generate C (raw_app f u) n = let m = generate C f n in make_app m (generate C u m.next)

-- what was made is to have the type of goals
abbrev pub as_goal : Made → Made
as_goal m = made m.term m.type_is (m.equations ++ equation m.type_is o_type ∷ []) m.next

-- a text with so many variables, where the types that are written have the type variables below k
abbrev pub generated : Raw → (names k : ℕ) → Made
generated R names k = as_goal (generate (fresh names k) R (k + names))

abbrev pub typing_under : (ℕ → Ty) → (names k : ℕ) → Made → Typing
typing_under θ names k m = record { free = map (instance θ) (fresh names k); formula = instance_term θ m.term }

-- the indices are below n, and the type variables of the types that are written below k

abbrev pub IsGivenBelow : ℕ → Option Ty → Type 0
IsGivenBelow k None = Unit {0}
IsGivenBelow k (Some given) = Below k given

abbrev pub IsScoped : (n k : ℕ) → Raw → Type 0
IsScoped n k (raw_index i) = i < n
IsScoped n k (raw_constant c s) = Unit {0}
IsScoped n k (raw_integer z) = Unit {0}
IsScoped n k (raw_text s) = Unit {0}
IsScoped n k (raw_abs given b) = IsGivenBelow k given × IsScoped (suc n) k b
IsScoped n k (raw_app f u) = IsScoped n k f × IsScoped n k u
