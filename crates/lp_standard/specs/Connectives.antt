-- The connective at the top of a formula.
use Rattle.std.specs.Prelude.{ℕ, nat_eq, if◌then◌else◌, List, [], ◌∷◌}
use Rattle.lp_calculus.specs.Types.{Ty}
use Rattle.lp_calculus.specs.Term.{Term, index, atom, abs, app, shift, constant}
use Rattle.lp_calculus.specs.Spine.{head_of, arguments}
use Rattle.lp_standard.specs.Numbers as number

-- formulas, put together

abbrev pub truth : Term
truth = atom (constant number.True [])

-- `!`
abbrev pub cut : Term
cut = atom (constant number.Cut [])

-- a constant on two arguments
abbrev pub two : ℕ → List Ty → Term → Term → Term
two c ts a b = app (app (atom (constant c ts)) a) b

-- `not t`
abbrev pub not_of : Term → Term
not_of t = app (atom (constant number.Not [])) t

-- `pi t` and `sigma t` at a type
abbrev pub pi_of : Ty → Term → Term
pi_of T t = app (atom (constant number.ForAll (T ∷ []))) t

abbrev pub sigma_of : Ty → Term → Term
sigma_of T t = app (atom (constant number.Exists (T ∷ []))) t

-- and taken apart

-- the body of a quantifier: `pi t` with t no abstraction is read as `pi x\ (t x)`
abbrev pub body_of : Term → Term
body_of (abs b) = b
body_of (index i) = app (shift 0 1 (index i)) (index 0)
body_of (atom a) = app (atom a) (index 0)
body_of (app t u) = app (shift 0 1 (app t u)) (index 0)

-- how a formula is built
pub data Connective : Type 0 where
  True : Connective
  Cut : Connective
  And : (left right : Term) → Connective
  Or : (left right : Term) → Connective
  -- the clause, then the goal: of `D => G`, and of `G :- D`
  Implies : (clause goal : Term) → Connective
  ForAll : Ty → (body : Term) → Connective
  Exists : Ty → (body : Term) → Connective
  Not : (goal : Term) → Connective
  -- no connective
  Atomic : Connective

abbrev pub connective_of_constant : ℕ → List Ty → List Term → Connective
connective_of_constant c ts [] = if nat_eq c number.True then True else (if nat_eq c number.Cut then Cut else Atomic)
connective_of_constant c (T ∷ []) (a ∷ []) =
    if nat_eq c number.ForAll then ForAll T (body_of a) else (if nat_eq c number.Exists then Exists T (body_of a) else Atomic)
connective_of_constant c [] (a ∷ []) = if nat_eq c number.Not then Not a else Atomic
connective_of_constant c [] (a ∷ b ∷ []) =
    if nat_eq c number.And then And a b else (if nat_eq c number.Or then Or a b else (if nat_eq c number.Implies then Implies a b else (if nat_eq c number.If then Implies b a else Atomic)))
connective_of_constant c ts us = Atomic

abbrev pub connective_at : Term → List Term → Connective
connective_at (atom (constant c ts)) us = connective_of_constant c ts us
connective_at t us = Atomic

abbrev pub connective_of : Term → Connective
connective_of t = connective_at (head_of t) (arguments t)
