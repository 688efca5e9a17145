-- Terms that are applied to lists of arguments.
use Rattle.std.proofs.Common.{◌≡◌, List, [], ◌∷◌, ◌++◌, map, None, Some, refl, ap}
use Rattle.lp_calculus.specs.Types.{Ty, arrow}
use Rattle.lp_calculus.specs.Term.{Term, app, apply}
use Rattle.lp_calculus.specs.Convert.{head_step, option_term}
use Rattle.lp_calculus.specs.Normal.{eta_normal}

pub apply_last : (h : Term) (xs : List Term) (x : Term) → apply h (xs ++ x ∷ []) ≡ app (apply h xs) x
apply_last h [] x = refl
apply_last h (y ∷ xs) x = apply_last (app h y) xs x

pub apply_append : (h : Term) (xs ys : List Term) → apply h (xs ++ ys) ≡ apply (apply h xs) ys
apply_append h [] ys = refl
apply_append h (x ∷ xs) ys = apply_append (app h x) xs ys

-- a step of the head, and none, stand in front of more arguments

pub step_apply : (t u s : Term) (xs : List Term) → head_step (app t u) ≡ Some s → head_step (apply (app t u) xs) ≡ Some (apply s xs)
step_apply t u s [] e = e
step_apply t u s (x ∷ xs) e = step_apply (app t u) x (app s x) xs (ap (option_term (λ y. app y x)) e)

pub no_step_apply : (t u : Term) (xs : List Term) → head_step (app t u) ≡ None → head_step (apply (app t u) xs) ≡ None
no_step_apply t u [] e = e
no_step_apply t u (x ∷ xs) e = no_step_apply (app t u) x xs (ap (option_term (λ y. app y x)) e)

pub eta_apply : (h : Term) (xs : List Term) → eta_normal (apply h xs) ≡ apply (eta_normal h) (map eta_normal xs)
eta_apply h [] = refl
eta_apply h (x ∷ xs) = eta_apply (app h x) xs

pub arrow_equal : (a b c d : Ty) → a ≡ c → b ≡ d → arrow a b ≡ arrow c d
arrow_equal a b c d e f = λ i. arrow (e i) (f i)
