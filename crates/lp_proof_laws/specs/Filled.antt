-- Flattened goals and clauses with terms for their loose indices and types for their type variables, at once.
use Rattle.std.specs.Prelude.{ℕ}
use Rattle.lp_calculus.specs.Types.{Ty, instance}
use Rattle.lp_calculus.specs.Term.{Term, Atom, constant, integer, text, eigen, logic, param}
use Rattle.lp_calculus.specs.Instance.{instance_term}
use Rattle.lp_model.specs.Index.{instantiate, lifted}
use Rattle.lp_model.specs.Flat.{Goals, Clauses, map_goals, map_clauses}

-- what is written in a program or a query has no logic variable
abbrev pub IsSourceAtom : Atom → Type 0
IsSourceAtom (logic x l) = ⊥
IsSourceAtom (constant c ts) = Unit {0}
IsSourceAtom (integer z) = Unit {0}
IsSourceAtom (text s) = Unit {0}
IsSourceAtom (eigen k) = Unit {0}
IsSourceAtom (param k T) = Unit {0}

abbrev pub filled_term : (ℕ → Ty) → (ℕ → Term) → Term → Term
filled_term θ σ t = instantiate σ (instance_term θ t)

abbrev pub filled_goals : (ℕ → Ty) → (ℕ → Term) → Goals → Goals
filled_goals θ σ gs = map_goals lifted (filled_term θ) (instance θ) σ gs

abbrev pub filled_clauses : (ℕ → Ty) → (ℕ → Term) → Clauses → Clauses
filled_clauses θ σ cs = map_clauses lifted (filled_term θ) (instance θ) σ cs
