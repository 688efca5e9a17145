-- What plain unification comes to, rule by rule, by computation over the definition: levels, pruning, lowering, waking, types and units.
use Rattle.std.proofs.Common.{◌≡◌, refl, [], ◌∷◌, Some}
use Rattle.lp_calculus.specs.Types.{var}
use Rattle.lp_calculus.specs.Term.{index, abs, apply}
use Rattle.lp_unify_laws.specs.Cases.{refused, found, too_many_units, within, run, pair, a, b, f, at, kind, X, Y, new, young, u, v, w}

-- X [] against f X a: the variable stands in the other side
pub the_other_side_has_the_variable : run (pair (X []) (f (X [] ∷ a ∷ [])) 0 ∷ []) ≡ Some refused
the_other_side_has_the_variable = refl

-- X a = a: no pattern, so it is left
pub no_pattern_is_left : run (pair (X (a ∷ [])) a 0 ∷ []) ≡ Some (found (X []) (pair (X (a ∷ [])) a 0 ∷ []))
no_pattern_is_left = refl

-- an eigenconstant above the variable's level
pub too_young_an_eigenconstant : run (pair (X []) u 1 ∷ []) ≡ Some refused
too_young_an_eigenconstant = refl

-- inside a term with a variable that is no pattern: left
pub flexible_inside : run (pair (X []) (f (Y (u ∷ u ∷ []) ∷ [])) 1 ∷ []) ≡ Some (found (X []) (pair (X []) (f (Y (u ∷ u ∷ []) ∷ [])) 1 ∷ []))
flexible_inside = refl

-- a pair that was delayed is taken up again when its variable is bound
pub woken : run (pair (X (a ∷ [])) a 0 ∷ pair (X []) (abs (index 0)) 0 ∷ []) ≡ Some (found (abs (index 0)) [])
woken = refl

-- and may fail then
pub woken_and_refused : run (pair (X (a ∷ [])) b 0 ∷ pair (X []) (abs (index 0)) 0 ∷ []) ≡ Some refused
woken_and_refused = refl

-- one variable, two values
pub two_values : run (pair (f (X [] ∷ X [] ∷ [])) (f (a ∷ b ∷ [])) 0 ∷ []) ≡ Some refused
two_values = refl

-- the same head on other numbers of arguments
pub other_numbers_of_arguments : run (pair (f (a ∷ [])) (f (a ∷ a ∷ [])) 0 ∷ []) ≡ Some refused
other_numbers_of_arguments = refl

-- one constant at two types
pub other_types : run (pair (at (kind 1)) (at (kind 2)) 0 ∷ []) ≡ Some refused
other_types = refl

-- a type variable gets its type, in the pairs behind too
pub a_type_for_a_type_variable : run (pair (at (var 3)) (at (kind 2)) 0 ∷ pair (at (kind 2)) (at (var 3)) 0 ∷ []) ≡ Some (found (X []) [])
a_type_for_a_type_variable = refl

-- row 6: X u = f u u
pub a_function : run (pair (X (u ∷ [])) (f (u ∷ u ∷ [])) 1 ∷ []) ≡ Some (found (abs (f (index 0 ∷ index 0 ∷ []))) [])
a_function = refl

-- row 7: X u v = Y v u
pub swapped_arguments : run (pair (X (u ∷ v ∷ [])) (Y (v ∷ u ∷ [])) 2 ∷ []) ≡ Some (found (abs (abs (Y (index 0 ∷ index 1 ∷ [])))) [])
swapped_arguments = refl

-- X = f Y, Y = b
pub a_value_in_a_value : run (pair (X []) (f (Y [] ∷ [])) 0 ∷ pair (Y []) b 0 ∷ []) ≡ Some (found (f (b ∷ [])) [])
a_value_in_a_value = refl

-- pruning: X = f (Y u), X older than u: Y forgets its argument
pub pruned : run (pair (X []) (f (Y (u ∷ []) ∷ [])) 1 ∷ []) ≡ Some (found (f (new [] ∷ [])) [])
pruned = refl

-- lowering: X = f Z, X older than Z: Z is a new variable of X's level
pub lowered : run (pair (X []) (f (young ∷ [])) 1 ∷ []) ≡ Some (found (f (new [] ∷ [])) [])
lowered = refl

-- on the eigenconstants that X may have and Z might
pub lowered_on_arguments : run (pair (X (u ∷ [])) (f (young ∷ [])) 1 ∷ []) ≡ Some (found (abs (f (new (index 0 ∷ []) ∷ []))) [])
lowered_on_arguments = refl

-- X u v = X u w: X forgets the second argument
pub the_places_that_agree : run (pair (X (u ∷ v ∷ [])) (X (u ∷ w ∷ [])) 3 ∷ []) ≡ Some (found (abs (abs (new (index 1 ∷ [])))) [])
the_places_that_agree = refl

-- X (x\ u x) = f u
pub an_eigenconstant_by_eta : run (pair (X (abs (apply u (index 0 ∷ [])) ∷ [])) (f (u ∷ [])) 1 ∷ []) ≡ Some (found (abs (f (index 0 ∷ []))) [])
an_eigenconstant_by_eta = refl

-- x\ X x = x\ f x x
pub below_an_abstraction : run (pair (abs (X (index 0 ∷ []))) (abs (f (index 0 ∷ index 0 ∷ []))) 0 ∷ []) ≡ Some (found (abs (f (index 0 ∷ index 0 ∷ []))) [])
below_an_abstraction = refl

-- (x\ x a) X = b, X = x\ b
pub a_redex_that_waits : run (pair (apply (abs (apply (index 0) (a ∷ []))) (X [] ∷ [])) b 0 ∷ pair (X []) (abs b) 0 ∷ []) ≡ Some (found (abs b) [])
a_redex_that_waits = refl

-- a pair and a node
pub units_of_a_value_suffice : within 2 (pair (X []) a 0 ∷ []) ≡ run (pair (X []) a 0 ∷ [])
units_of_a_value_suffice = refl

pub units_of_a_value_are_all : within 1 (pair (X []) a 0 ∷ []) ≡ Some too_many_units
units_of_a_value_are_all = refl

-- each pair of arguments, below a pair of heads
pub units_of_arguments_suffice : within 4 (pair (f (X [] ∷ X [] ∷ [])) (f (a ∷ a ∷ [])) 0 ∷ []) ≡ run (pair (f (X [] ∷ X [] ∷ [])) (f (a ∷ a ∷ [])) 0 ∷ [])
units_of_arguments_suffice = refl

pub units_of_arguments_are_all : within 3 (pair (f (X [] ∷ X [] ∷ [])) (f (a ∷ a ∷ [])) 0 ∷ []) ≡ Some too_many_units
units_of_arguments_are_all = refl

-- nodes of a value
pub units_of_nodes_suffice : within 5 (pair (X []) (abs (f (index 0 ∷ a ∷ []))) 0 ∷ []) ≡ run (pair (X []) (abs (f (index 0 ∷ a ∷ []))) 0 ∷ [])
units_of_nodes_suffice = refl

pub units_of_nodes_are_all : within 4 (pair (X []) (abs (f (index 0 ∷ a ∷ []))) 0 ∷ []) ≡ Some too_many_units
units_of_nodes_are_all = refl

-- a pair of types, and the visit of its right side
pub units_of_types_suffice : within 3 (pair (at (var 3)) (at (kind 2)) 0 ∷ []) ≡ run (pair (at (var 3)) (at (kind 2)) 0 ∷ [])
units_of_types_suffice = refl

pub units_of_types_are_all : within 2 (pair (at (var 3)) (at (kind 2)) 0 ∷ []) ≡ Some too_many_units
units_of_types_are_all = refl

-- each pair of heads
pub units_of_a_comparison_suffice : within 3 (pair (X (f (a ∷ []) ∷ [])) (X (f (a ∷ []) ∷ [])) 0 ∷ []) ≡ run (pair (X (f (a ∷ []) ∷ [])) (X (f (a ∷ []) ∷ [])) 0 ∷ [])
units_of_a_comparison_suffice = refl

pub units_of_a_comparison_are_all : within 2 (pair (X (f (a ∷ []) ∷ [])) (X (f (a ∷ []) ∷ [])) 0 ∷ []) ≡ Some too_many_units
units_of_a_comparison_are_all = refl
