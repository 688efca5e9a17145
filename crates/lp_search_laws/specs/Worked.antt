-- What worked searches need to be written down.
use Rattle.std.specs.Prelude.{ℕ, zero, suc, ◌-◌, List, [], ◌∷◌, ◌++◌, map, Option, Some, None}
use Rattle.lp_calculus.specs.Term.{Term, app}
use Rattle.lp_calculus.specs.Typing.{Scheme}
use Rattle.lp_model.specs.Skeleton.{Told, run}
use Rattle.lp_standard.specs.Connectives.{two}
use Rattle.lp_model.specs.Flat.{Clause, Clauses, clause_list, Goals, no_goals}
use Rattle.lp_model.specs.Flatten.{ClauseFormula, flatten, flatten_query}
use Rattle.lp_model.specs.Pair.{Pair}
use Rattle.lp_model.specs.Unify.{unit_limit}
use Rattle.lp_model.specs.Branch.{Answer}
use Rattle.lp_model.specs.Search.{look, start}
pub use Rattle.lp_proof_laws.specs.Worked.{known, kind, on, impl, plain_type}

abbrev pub on2 : ℕ → Term → Term → Term
on2 c a b = app (on c a) b

abbrev pub conj : Term → Term → Term
conj a b = two 0 [] a b

-- declared types, in order, from number 32
abbrev pub declares : List (Option Scheme) → ℕ → Option Scheme
declares ss c = entry ss (c - 32)
  where
    entry : List (Option Scheme) → ℕ → Option Scheme
    entry [] n = None
    entry (s ∷ ss) zero = s
    entry (s ∷ ss) (suc n) = entry ss n

abbrev pub fact : Term → ClauseFormula
fact t = record { type_vars = 0; formula = t }

abbrev pub or_none : Option Clauses → List Clause
or_none None = []
or_none (Some cs) = clause_list cs

abbrev pub program : (ℕ → Option Scheme) → List ClauseFormula → List Clause
program d [] = []
program d (c ∷ cs) = or_none (flatten 100 d c) ++ program d cs

abbrev pub query : (ℕ → Option Scheme) → Term → Goals
query d t = elim (flatten_query 100 d t) [ None ↦ no_goals | Some gs ↦ gs ]

abbrev pub told : (ℕ → Option Scheme) → List ClauseFormula → (type_vars vars : ℕ) → Term → (steps moves : ℕ) → Told Answer
told d P j k t steps moves = run (look unit_limit 100 (program d P)) moves moves (start j k (query d t) steps 1000)

abbrev pub values : Told Answer → List (List Term)
values t = map (λ a. a.values) t.answers

abbrev pub residues : Told Answer → List (List Pair)
residues t = map (λ a. a.pairs) t.answers
