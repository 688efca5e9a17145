-- Types put for the type variables of a term: those of its constants' type arguments and of its parameters.
use Rattle.std.specs.Prelude.{ℕ, map, option_map}
use Rattle.lp_calculus.specs.Types.{Ty, instance}
use Rattle.lp_calculus.specs.Term.{Term, Atom, index, atom, abs, app, constant, integer, text, eigen, logic, param}
use Rattle.lp_calculus.specs.Typing.{Context}

abbrev pub instance_atom : (ℕ → Ty) → Atom → Atom
instance_atom θ (constant c ts) = constant c (map (instance θ) ts)
instance_atom θ (integer z) = integer z
instance_atom θ (text s) = text s
instance_atom θ (eigen k) = eigen k
instance_atom θ (logic x l) = logic x l
instance_atom θ (param k T) = param k (instance θ T)

-- the term with types for its type variables
abbrev pub instance_term : (ℕ → Ty) → Term → Term
instance_term θ (index i) = index i
instance_term θ (atom a) = atom (instance_atom θ a)
instance_term θ (abs b) = abs (instance_term θ b)
instance_term θ (app t u) = app (instance_term θ t) (instance_term θ u)

-- the context with types for its type variables; those of declared types are bound there
abbrev pub instance_context : (ℕ → Ty) → Context → Context
instance_context θ K = record {
  declared = K.declared;
  eigens = map (instance θ) K.eigens;
  variables = λ x l. option_map (instance θ) (K.variables x l);
}
