-- What a term is by its form.
use Rattle.std.proofs.Common.{◌≡◌, ℕ, List, [], ◌∷◌, refl, ap, subst, inl, inr}
use Rattle.std.specs.Prelude.{◌⊎◌, Bool, true, false, nat_eq, if◌then◌else◌}
use Rattle.std.proofs.lemmas.Bool.{eqb-true}
use Rattle.lp_calculus.specs.Types.{Ty}
use Rattle.lp_calculus.specs.Term.{Term, index, atom, abs, app, apply, constant, integer, text, eigen, logic, param}
use Rattle.lp_calculus.specs.Spine.{head_of, arguments, arguments_and}
use Rattle.lp_standard.specs.Connectives.{two, pi_of, sigma_of, body_of, Connective, connective_of_constant, connective_at, connective_of}
use Rattle.lp_standard.specs.Connectives as connective

abbrev pub Shape : Connective → Term → Type 0
Shape connective.True t = (ts : List Ty) × (t ≡ atom (constant 6 ts))
Shape connective.Cut t = (ts : List Ty) × (t ≡ atom (constant 7 ts))
Shape (connective.And a b) t = t ≡ two 0 [] a b
Shape (connective.Or a b) t = t ≡ two 1 [] a b
Shape (connective.Implies c g) t = (t ≡ two 2 [] c g) ⊎ (t ≡ two 3 [] g c)
Shape (connective.ForAll T b) t = (s : Term) × (t ≡ pi_of T s) × (b ≡ body_of s)
Shape (connective.Exists T b) t = (s : Term) × (t ≡ sigma_of T s) × (b ≡ body_of s)
Shape (connective.Not g) t = t ≡ app (atom (constant 24 [])) g
Shape connective.Atomic t = Unit {0}

none_shape : (c : ℕ) (ts : List Ty) → Shape (connective_of_constant c ts []) (atom (constant c ts))
none_shape c ts = go (nat_eq c 6) refl (nat_eq c 7) refl
  where
    go : (p : Bool) → nat_eq c 6 ≡ p → (q : Bool) → nat_eq c 7 ≡ q → Shape (if p then connective.True else (if q then connective.Cut else connective.Atomic)) (atom (constant c ts))
    go true e q f = (ts, ap (λ z. atom (constant z ts)) (eqb-true c 6 e))
    go false e true f = (ts, ap (λ z. atom (constant z ts)) (eqb-true c 7 f))
    go false e false f = tt

one_shape : (c : ℕ) (T : Ty) (a : Term) → Shape (connective_of_constant c (T ∷ []) (a ∷ [])) (app (atom (constant c (T ∷ []))) a)
one_shape c T a = go (nat_eq c 4) refl (nat_eq c 5) refl
  where
    go : (p : Bool) → nat_eq c 4 ≡ p → (q : Bool) → nat_eq c 5 ≡ q → Shape (if p then connective.ForAll T (body_of a) else (if q then connective.Exists T (body_of a) else connective.Atomic)) (app (atom (constant c (T ∷ []))) a)
    go true e q f = (a, ap (λ z. app (atom (constant z (T ∷ []))) a) (eqb-true c 4 e), refl)
    go false e true f = (a, ap (λ z. app (atom (constant z (T ∷ []))) a) (eqb-true c 5 f), refl)
    go false e false f = tt

two_shape : (c : ℕ) (a b : Term) → Shape (connective_of_constant c [] (a ∷ b ∷ [])) (two c [] a b)
two_shape c a b = go (nat_eq c 0) refl (nat_eq c 1) refl (nat_eq c 2) refl (nat_eq c 3) refl
  where
    go : (p : Bool) → nat_eq c 0 ≡ p → (q : Bool) → nat_eq c 1 ≡ q → (r : Bool) → nat_eq c 2 ≡ r → (s : Bool) → nat_eq c 3 ≡ s → Shape
        (if p then connective.And a b else (if q then connective.Or a b else (if r then connective.Implies a b else
        (if s then connective.Implies b a else connective.Atomic)))) (two c [] a b)
    go true e q f r g s h = ap (λ z. two z [] a b) (eqb-true c 0 e)
    go false e true f r g s h = ap (λ z. two z [] a b) (eqb-true c 1 f)
    go false e false f true g s h = inl (ap (λ z. two z [] a b) (eqb-true c 2 g))
    go false e false f false g true h = inr (ap (λ z. two z [] a b) (eqb-true c 3 h))
    go false e false f false g false h = tt

not_shape : (c : ℕ) (a : Term) → Shape (connective_of_constant c [] (a ∷ [])) (app (atom (constant c [])) a)
not_shape c a = go (nat_eq c 24) refl
  where
    go : (p : Bool) → nat_eq c 24 ≡ p → Shape (if p then connective.Not a else connective.Atomic) (app (atom (constant c [])) a)
    go true e = ap (λ z. app (atom (constant z [])) a) (eqb-true c 24 e)
    go false e = tt

constant_shape : (c : ℕ) (ts : List Ty) (us : List Term) → Shape (connective_of_constant c ts us) (apply (atom (constant c ts)) us)
constant_shape c ts [] = none_shape c ts
constant_shape c (T ∷ []) (a ∷ []) = one_shape c T a
constant_shape c [] (a ∷ b ∷ []) = two_shape c a b
constant_shape c [] (a ∷ []) = not_shape c a
constant_shape c (T ∷ U ∷ ts) (a ∷ []) = tt
constant_shape c (T ∷ []) (a ∷ b ∷ []) = tt
constant_shape c (T ∷ U ∷ ts) (a ∷ b ∷ []) = tt
constant_shape c [] (a ∷ b ∷ x ∷ us) = tt
constant_shape c (T ∷ []) (a ∷ b ∷ x ∷ us) = tt
constant_shape c (T ∷ U ∷ ts) (a ∷ b ∷ x ∷ us) = tt

at_shape : (h : Term) (us : List Term) → Shape (connective_at h us) (apply h us)
at_shape (atom (constant c ts)) us = constant_shape c ts us
at_shape (atom (integer z)) us = tt
at_shape (atom (text s)) us = tt
at_shape (atom (eigen k)) us = tt
at_shape (atom (logic x l)) us = tt
at_shape (atom (param k t)) us = tt
at_shape (index i) us = tt
at_shape (abs b) us = tt
at_shape (app t u) us = tt

pub apply_arguments : (t : Term) (more : List Term) → apply (head_of t) (arguments_and t more) ≡ apply t more
apply_arguments (index i) more = refl
apply_arguments (atom a) more = refl
apply_arguments (abs b) more = refl
apply_arguments (app f u) more = apply_arguments f (u ∷ more)

pub form_shape : (t : Term) → Shape (connective_of t) t
form_shape t = subst (Shape (connective_of t)) (apply_arguments t []) (at_shape (head_of t) (arguments t))
