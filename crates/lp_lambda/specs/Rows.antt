-- Some clauses and queries, with numbers in place of the names of their constants.
use Rattle.std.specs.Prelude.{ℕ, [], ◌∷◌}
use Rattle.lp_calculus.specs.Types.{Ty, con, no_types, arrow}
use Rattle.lp_calculus.specs.Term.{Term, index, atom, abs, app, constant}
use Rattle.lp_standard.specs.Numbers as number
use Rattle.lp_standard.specs.Connectives.{two, not_of, pi_of, sigma_of}

-- a constant, and its applications
abbrev pub name : ℕ → Term
name c = atom (constant c [])

abbrev pub one : ℕ → Term → Term
one c t = app (name c) t

abbrev pub both : ℕ → Term → Term → Term
both c t u = app (one c t) u

abbrev pub applied : Term → Term → Term → Term
applied f t u = app (app f t) u

abbrev pub thing : Ty
thing = con 8 no_types

abbrev pub for_all : Term → Term
for_all t = pi_of thing (abs t)

abbrev pub for_some : Term → Term
for_some t = sigma_of thing (abs t)

abbrev pub equal : Term → Term → Term
equal t u = app (app (atom (constant number.Equal (thing ∷ []))) t) u

abbrev pub conj : Term → Term → Term
conj t u = two number.And [] t u

abbrev pub implies : Term → Term → Term
implies t u = two number.Implies [] t u

abbrev pub when : Term → Term → Term
when t u = two number.If [] t u

-- `of (app M N) B :- of M (arr A B), of N A.`
abbrev pub applications_typed : Term
applications_typed = for_all (for_all (for_all (for_all (when (both 35 (both 33 (index 3) (index 2)) (index 1)) (conj (both 35 (index 3) (both 34 (index 0) (index 1))) (both 35 (index 2) (index 0)))))))

-- `of (abs M) (arr A B) :- pi x\ (of x A => of (M x) B).`
abbrev pub abstractions_typed : Term
abstractions_typed = for_all (for_all (for_all (when (both 35 (one 32 (index 2)) (both 34 (index 1) (index 0))) (for_all (implies (both 35 (index 0) (index 2)) (both 35 (app (index 3) (index 0)) (index 1)))))))

-- the query `of (abs x\ x) T`
abbrev pub identity_typed : Term
identity_typed = both 35 (one 32 (abs (index 0))) (index 0)

-- the query `F a = a`
abbrev pub on_a_constant : Term
on_a_constant = equal (app (index 0) (name 32)) (name 32)

-- `ev (abs R) (abs R).`
abbrev pub abstractions_evaluated : Term
abstractions_evaluated = for_all (both 34 (one 32 (index 0)) (one 32 (index 0)))

-- `ev (app M N) V :- ev M (abs R), ev N U, ev (R U) V.`
abbrev pub applications_evaluated : Term
applications_evaluated =
    for_all (for_all (for_all (for_all (for_all (when (both 34 (both 33 (index 4) (index 3)) (index 2)) (conj (both 34 (index 4) (one 32 (index 1))) (conj (both 34 (index 3) (index 0)) (both 34 (app (index 1) (index 0)) (index 2)))))))))

-- queries over `p`, of the number 32, and `r`, of the number 33; index 0 outside of all binders is the variable F, index 1 is G

-- `p (x\ F x)`, `p (x\ y\ F y x)`, and `p (x\ F (y\ x y))`, whose argument is x
abbrev pub expanded : Term
expanded = one 32 (abs (app (index 1) (index 0)))

abbrev pub exchanged : Term
exchanged = one 32 (abs (abs (applied (index 2) (index 0) (index 1))))

abbrev pub expanded_argument : Term
expanded_argument = one 32 (abs (app (index 1) (abs (app (index 1) (index 0)))))

-- `pi x\ pi y\ r (F x y)`, and `pi x\ r (F x x)`
abbrev pub distinct : Term
distinct = for_all (for_all (one 33 (applied (index 2) (index 1) (index 0))))

abbrev pub repeated : Term
repeated = for_all (one 33 (applied (index 1) (index 0) (index 0)))

-- `pi x\ sigma H\ r (H x)`, and `sigma H\ pi x\ r (H x)`
abbrev pub bound_outside : Term
bound_outside = for_all (for_some (one 33 (app (index 0) (index 1))))

abbrev pub bound_inside : Term
bound_inside = for_some (for_all (one 33 (app (index 1) (index 0))))

-- `sigma p`, and `sigma F`, which is `sigma x\ F x`
abbrev pub some_constant : Term
some_constant = sigma_of thing (name 32)

abbrev pub some_variable : Term
some_variable = sigma_of thing (index 0)

-- `pi F`, and `pi pi`, which is `pi f\ pi x\ f x`
abbrev pub every_variable : Term
every_variable = pi_of thing (index 0)

abbrev pub every_predicate : Term
every_predicate = pi_of (arrow thing (con 0 no_types)) (atom (constant number.ForAll (thing ∷ [])))

-- `p (sigma x\ r x)`, and the clause `sigma x\ r x`
abbrev pub some_inside : Term
some_inside = one 32 (for_some (one 33 (index 0)))

abbrev pub some_clause : Term
some_clause = for_some (one 33 (index 0))

-- `F G`
abbrev pub on_a_variable : Term
on_a_variable = app (index 0) (index 1)

-- `not (pi x\ r (F x))`, and `not (sigma x\ r (F x))`
abbrev pub not_every : Term
not_every = not_of (for_all (one 33 (app (index 1) (index 0))))

abbrev pub not_some : Term
not_some = not_of (for_some (one 33 (app (index 1) (index 0))))

-- `(pi f\ r (f a)) => p a`: the variable of an assumed clause is existential; `(pi y\ r y => r (F y)) => p a`: so is y
abbrev pub assumed_application : Term
assumed_application = implies (for_all (one 33 (app (index 0) (name 34)))) (one 32 (name 34))

abbrev pub assumed_variable : Term
assumed_variable = implies (for_all (implies (one 33 (index 0)) (one 33 (app (index 1) (index 0))))) (one 32 (name 34))
