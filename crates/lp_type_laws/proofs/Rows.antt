-- The definitions, on texts.
use Rattle.std.proofs.Common.{◌≡◌, ℕ, zero, suc, List, [], ◌∷◌, Option, Some, None, refl}
use Rattle.std.specs.Prelude.{pos}
use Rattle.lp_calculus.specs.Types.{Ty, var, con, arrow, no_types, types}
use Rattle.lp_type_laws.specs.Solving.{solve, fails, solved, unfinished}
use Rattle.lp_type_laws.specs.Typing.{Raw, raw_index, raw_constant, raw_integer, raw_abs, raw_app, Scheme, o_type, int_type}
use Rattle.lp_type_laws.specs.Generate.{generated, typing_under}

abbrev list_of : Ty → Ty
list_of A = con 3 (types A no_types)

-- 0 append, 1 nil, 2 ::, 3 pi
abbrev scheme : ℕ → Ty → Scheme
scheme n T = record { count = n; body = T }

abbrev lists : ℕ → Scheme
lists zero = scheme 1 (arrow (list_of (var 0)) (arrow (list_of (var 0)) (arrow (list_of (var 0)) o_type)))
lists (suc zero) = scheme 1 (list_of (var 0))
lists (suc (suc zero)) = scheme 1 (arrow (var 0) (arrow (list_of (var 0)) (list_of (var 0))))
lists (suc (suc (suc n))) = scheme 1 (arrow (arrow (var 0) o_type) o_type)

abbrev on : Raw → Raw → Raw → Raw
on f a b = raw_app (raw_app f a) b

-- append (1 :: nil) nil X
abbrev good : Raw
good = raw_app (on (raw_constant 0) (on (raw_constant 2) (raw_integer (pos 1)) (raw_constant 1)) (raw_constant 1)) (raw_index 0)

-- append 1 nil X
abbrev bad : Raw
bad = raw_app (on (raw_constant 0) (raw_integer (pos 1)) (raw_constant 1)) (raw_index 0)

abbrev verdict_on : (ℕ → Scheme) → Raw → (names k : ℕ) → Option (List Ty)
verdict_on S r names k = elim (solve 60 (generated S r names k).equations var) [ unfinished ↦ None | fails ↦ Some [] | solved θ ↦ Some ((typing_under θ names k (generated S r names k)).vars) ]

row_good : verdict_on lists good 1 0 ≡ Some (list_of int_type ∷ [])
row_good = refl

row_bad : verdict_on lists bad 1 0 ≡ Some []
row_bad = refl

-- pi (x : A \ append x nil X) with A an annotation's variable
abbrev annotated : Raw
annotated = raw_app (raw_constant 3) (raw_abs (Some (var 0)) (raw_app (on (raw_constant 0) (raw_index 0) (raw_constant 1)) (raw_index 1)))

row_annotated : (n : ℕ) × (verdict_on lists annotated 1 1 ≡ Some (list_of (var n) ∷ []))
row_annotated = (_, refl)
