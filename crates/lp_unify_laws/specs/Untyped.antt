-- Two pairs that have no typing, with a solution that the rules lose; and two in which something stands above the pair's level.
use Rattle.std.specs.Prelude.{ℕ, false, List, []}
use Rattle.lp_calculus.specs.Types.{var}
use Rattle.lp_calculus.specs.Term.{Term, index, atom, abs, app, eigen, logic}
use Rattle.lp_calculus.specs.Fill.{Binding}
use Rattle.lp_model.specs.Pair.{Pair, Closing}
use Rattle.lp_model.specs.Unify.{State}

abbrev pub constant_at : ℕ → Term
constant_at k = atom (eigen k)

abbrev pub unknown : Term
unknown = atom (logic 0 0)

abbrev pub everywhere : Term → Closing
everywhere t = record { types = var; terms = λ x l. t }

-- pi h\ pi v\ (X h v = h (z\ X v z)): the variable stands below a rigid head in what it is to be
abbrev pub occurs : Pair
occurs = record {
  left = app (app unknown (constant_at 1)) (constant_at 2);
  right = app (constant_at 1) (abs (app (app unknown (constant_at 2)) (index 0)));
  level = 2;
}

-- p\ q\ (p q)
abbrev pub applies : Closing
applies = everywhere (abs (abs (app (index 1) (index 0))))

-- pi x\ pi y\ (X x y = X y x)
abbrev pub swapped : Pair
swapped = record {
  left = app (app unknown (constant_at 1)) (constant_at 2);
  right = app (app unknown (constant_at 2)) (constant_at 1);
  level = 2;
}

-- what the run binds X to: a constant function
abbrev pub swapped_binding : Binding
swapped_binding = record { id = 0; level = 0; value = abs (abs (atom (logic 1 0))) }

-- u u, where u is u\ x\ y\ (u u y x)
abbrev pub half : Term
half = abs (abs (abs (app (app (app (index 2) (index 2)) (index 0)) (index 1))))

abbrev pub loop : Closing
loop = everywhere (app half half)

abbrev pub ended : List Binding → (next units : ℕ) → State
ended bs next units = record { pairs = []; delayed = []; bindings = bs; types = []; changed = false; next = next; units = units }

-- \x X = \x x, with X of a level above the pair's: bound, and yet without a solution
abbrev pub high : Pair
high = record { left = abs (atom (logic 0 1)); right = abs (index 0); level = 0 }

-- \x x = \x #1, with an eigenconstant above the pair's level: found to hold, and does not
abbrev pub early : Pair
early = record { left = abs (index 0); right = abs (constant_at 1); level = 0 }
