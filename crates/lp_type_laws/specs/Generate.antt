-- The type equations of a raw text, with new type variables from a number on.
use Rattle.std.specs.Prelude.{ℕ, zero, suc, ◌+◌, List, [], ◌∷◌, ◌++◌, map, Option, Some, None}
use Rattle.lp_calculus.specs.Types.{Ty, var, arrow, instance}
use Rattle.lp_calculus.specs.Term.{Term, index, atom, abs, app, constant, integer, text}
use Rattle.lp_type_laws.specs.Equations.{Equation, equation}
use Rattle.lp_type_laws.specs.Typing.{Raw, raw_index, raw_constant, raw_integer, raw_text, raw_abs, raw_app, Scheme, int_type, text_type, o_type, type_at, Typing, instance_term}

-- a term, its equations, and the first type variable after its own
pub record Made : Type 0 where
  pub term : Term
  pub equations : List Equation
  pub next : ℕ

-- n type variables from i on
abbrev pub fresh : ℕ → ℕ → List Ty
fresh zero i = []
fresh (suc n) i = var i ∷ fresh n (suc i)

abbrev pub note_equation : Option Ty → Ty → List Equation
note_equation None A = []
note_equation (Some given) A = equation A given ∷ []

abbrev pub made : Term → List Equation → ℕ → Made
made t es n = record { term = t; equations = es; next = n }

-- an abstraction and an application of what was made
abbrev pub make_abs : Option Ty → Ty → ℕ → Made → Made
make_abs given A n m =
    made (abs m.term) (equation (arrow (var n) (var (suc n))) A ∷ (note_equation given (var n) ++ m.equations)) m.next

abbrev pub make_app : Made → Made → Made
make_app m k = made (app m.term k.term) (m.equations ++ k.equations) k.next

-- the term is to have the type A where the indices have the types C
abbrev pub generate : (ℕ → Scheme) → List Ty → Raw → Ty → ℕ → Made
generate S C (raw_index i) A n = made (index i) (equation (type_at C i) A ∷ []) n
generate S C (raw_constant c) A n =
    made (atom (constant c (fresh (S c).count n))) (equation (instance (type_at (fresh (S c).count n)) (S c).body) A ∷ []) (n + (S c).count)
generate S C (raw_integer z) A n = made (atom (integer z)) (equation int_type A ∷ []) n
generate S C (raw_text s) A n = made (atom (text s)) (equation text_type A ∷ []) n
generate S C (raw_abs given b) A n =
    make_abs given A n (generate S (var n ∷ C) b (var (suc n)) (suc (suc n)))
generate S C (raw_app f u) A n =
    let m = generate S C f (arrow (var n) A) (suc n) in make_app m (generate S C u (var n) m.next)

-- a text with so many free names, whose annotations have the type variables below k
abbrev pub generated : (ℕ → Scheme) → Raw → (names k : ℕ) → Made
generated S raw names k = generate S (fresh names k) raw o_type (k + names)

abbrev pub typing_under : (ℕ → Ty) → (names k : ℕ) → Made → Typing
typing_under θ names k m = record { vars = map (instance θ) (fresh names k); formula = instance_term θ m.term }
