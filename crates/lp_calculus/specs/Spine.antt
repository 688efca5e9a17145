-- The head and the arguments of a term that is no abstraction.
use Rattle.std.specs.Prelude.{List, [], ◌∷◌}
use Rattle.lp_calculus.specs.Term.{Term, index, atom, abs, app}

abbrev pub head_of : Term → Term
head_of (index i) = index i
head_of (atom a) = atom a
head_of (abs b) = abs b
head_of (app f a) = head_of f

abbrev pub arguments_and : Term → List Term → List Term
arguments_and (index i) more = more
arguments_and (atom a) more = more
arguments_and (abs b) more = more
arguments_and (app f a) more = arguments_and f (a ∷ more)

abbrev pub arguments : Term → List Term
arguments t = arguments_and t []
