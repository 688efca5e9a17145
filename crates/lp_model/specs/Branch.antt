-- Branches of the plain search of hereditary Harrop goals: goals with their assumptions, levels and cut marks; logic variables and type
-- variables, numbered in the order made; the terms and types of the query's variables; the residual pairs.
use Rattle.std.specs.Prelude.{ℕ, List, [], ◌∷◌, ◌++◌, map}
use Rattle.lp_calculus.specs.Types.{Ty, instance}
use Rattle.lp_calculus.specs.Term.{Term}
use Rattle.lp_calculus.specs.Fill.{Binding, put, put_all}
use Rattle.lp_calculus.specs.Instance.{instance_term}
use Rattle.lp_model.specs.declared.ending.Ending.{Ending}
use Rattle.lp_model.specs.Types.{TypeBinding, one_type, put_types}
use Rattle.lp_model.specs.Pair.{Pair, put_types_in}
use Rattle.lp_model.specs.Unify.{State}
use Rattle.lp_model.specs.Flat.{Goal, Clause, Written, map_written, put_goal, put_clause, type_goal, type_clause}

-- a goal without loose indices; the assumptions are its own, newest first, with what stands for the variables that are written in them; a cut in it
-- keeps the oldest `mark` alternatives
pub record Entry : Type 0 where
  pub goal : Goal
  pub assumed : List Clause
  pub written : Written
  pub level : ℕ
  pub mark : ℕ

pub record Branch : Type 0 where
  -- the numbers of the next logic variable and the next type variable
  pub next : ℕ
  pub next_type : ℕ
  pub goals : List Entry
  pub types : List Ty
  pub values : List Term
  pub pairs : List Pair

pub record Answer : Type 0 where
  pub next : ℕ
  pub next_type : ℕ
  pub types : List Ty
  pub values : List Term
  pub pairs : List Pair

pub data Task : Type 0 where
  -- a branch to go on with
  Go : Branch → Task
  -- a candidate clause for an atom, which stood in the entry, with the rest of the branch; `mark` is the mark of its body's goals
  Try : Clause → (goal : Term) → Entry → (rest : Branch) → (mark : ℕ) → Task
  -- the search cannot go on
  Stop : Ending → Task
  -- the look needs more steps than it was allowed
  Lack : Task

abbrev pub put_entry : Binding → Entry → Entry
put_entry b e = record {
  goal = put_goal b e.goal;
  assumed = map (put_clause b) e.assumed;
  written = map_written (put b) (λ T. T) e.written;
  level = e.level;
  mark = e.mark;
}

abbrev pub put_entries : List Binding → List Entry → List Entry
put_entries [] es = es
put_entries (b ∷ bs) es = put_entries bs (map (put_entry b) es)

abbrev pub type_entry : TypeBinding → Entry → Entry
type_entry b e = record {
  goal = type_goal (one_type b) e.goal;
  assumed = map (type_clause (one_type b)) e.assumed;
  written = map_written (instance_term (one_type b)) (instance (one_type b)) e.written;
  level = e.level;
  mark = e.mark;
}

abbrev pub type_entries : List TypeBinding → List Entry → List Entry
type_entries [] es = es
type_entries (b ∷ bs) es = type_entries bs (map (type_entry b) es)

-- the branch behind a unification: its bindings, then its types, and its residual pairs
abbrev pub resume : Branch → State → Branch
resume b s = record {
  next = s.next;
  next_type = b.next_type;
  goals = type_entries s.types (put_entries s.bindings b.goals);
  types = map (put_types s.types) b.types;
  values = map (λ t. put_types_in s.types (put_all s.bindings t)) b.values;
  pairs = s.delayed;
}

abbrev pub entries : List Goal → List Clause → Written → (level mark : ℕ) → List Entry
entries [] assumed written level mark = []
entries (g ∷ gs) assumed written level mark = record { goal = g; assumed = assumed; written = written; level = level; mark = mark } ∷ entries gs assumed written level mark

-- of an assumption, and of those before it
abbrev pub both_written : Written → Written → Written
both_written v w = record { terms = v.terms ++ w.terms; types = v.types ++ w.types }

abbrev pub nothing_written : Written
nothing_written = record { terms = []; types = [] }
