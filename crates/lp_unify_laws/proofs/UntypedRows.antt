-- Rows by computation: typing and levels are needed. Two untyped pairs lose a solution, and two pairs with something above their level
-- are found to have one.
use Rattle.std.proofs.Common.{◌≡◌, refl, [], ◌∷◌, Some}
use Rattle.lp_calculus.specs.Term.{index, app, abs}
use Rattle.lp_calculus.specs.Convert.{here, in_abs, in_head, in_argument, by_beta, by_eta, same, forth, back}
use Rattle.lp_model.specs.Pair.{closed, Solves}
use Rattle.lp_model.specs.Unify.{Fail, Solution, solve}
use Rattle.lp_unify_laws.specs.Untyped.{constant_at, occurs, applies, swapped, swapped_binding, half, loop, ended, high, early}

pub occurs_fails : solve 20 100 [] (occurs ∷ []) [] 1 ≡ Some Fail
occurs_fails = refl

pub occurs_solved : Solves applies occurs
occurs_solved =
    forth (in_head (constant_at 2) (here (by_beta (abs (app (index 1) (index 0))) (constant_at 1))))
    (forth (here (by_beta (app (constant_at 1) (index 0)) (constant_at 2)))
    (back (in_argument (constant_at 1) (here (by_eta (constant_at 2))))
    (back (in_argument (constant_at 1) (in_abs (here (by_beta (app (constant_at 2) (index 0)) (index 0)))))
    (back (in_argument (constant_at 1) (in_abs (in_head (index 0) (here (by_beta (abs (app (index 1) (index 0))) (constant_at 2))))))
    (same (closed applies occurs.right))))))

pub swapped_binds : solve 20 100 [] (swapped ∷ []) [] 1 ≡ Some (Solution (ended (swapped_binding ∷ []) 2 2))
swapped_binds = refl

pub swapped_solved : Solves loop swapped
swapped_solved =
    forth (in_head (constant_at 2) (in_head (constant_at 1) (here (by_beta (abs (abs (app (app (app (index 2) (index 2)) (index 0)) (index 1)))) half))))
    (forth (in_head (constant_at 2) (here (by_beta (abs (app (app (app half half) (index 0)) (index 1))) (constant_at 1))))
    (forth (here (by_beta (app (app (app half half) (index 0)) (constant_at 1)) (constant_at 2)))
    (same (app (app (app half half) (constant_at 2)) (constant_at 1)))))

pub high_binds : solve 20 100 [] (high ∷ []) [] 1 ≡ Some (Solution (ended (record { id = 0; level = 1; value = constant_at 1 } ∷ []) 1 3))
high_binds = refl

pub early_holds : solve 20 100 [] (early ∷ []) [] 0 ≡ Some (Solution (ended [] 0 2))
early_holds = refl
