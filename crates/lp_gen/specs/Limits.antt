-- The limits of clauses. Whatever code they have: strings of at most 65,535 bytes, at most 255 arguments of a head and types of a constant, terms and blocks of
-- goals at most 2,000 deep (a `sigma` makes no block), and at most 65,535 records, one for each clause and one for each clause that is assumed in it, at any depth.
-- And by their code: no record has more than 65,535 registers of one kind, or 2^32 bytes of code.
use Rattle.std.specs.Prelude.{◌≡◌, ℕ, suc, ◌+◌, ◌<◌, ◌≤◌, List, map, length, Option, Some}
use Rattle.lp_calculus.specs.Typing.{Scheme}
use Rattle.lp_base.specs.declared.limit.Limit.TheVariants as limit
use Rattle.lp_calculus.specs.Term.{Term, Atom, index, atom, abs, app, constant, integer, text, eigen, logic, param}
use Rattle.lp_term.specs.Nodes.{Nodes, type_tree}
use Rattle.lp_model.specs.declared.program.Declared.{Declared}
use Rattle.lp_model.specs.declared.program.Typed as program
use Rattle.lp_model.specs.declared.clause.Goal as code_goal
use Rattle.lp_model.specs.declared.clause.Clause as code_clause
use Rattle.lp_model.specs.Flattened.{clause_of, goals_of, clauses_of}
use Rattle.lp_model.specs.Flat.{Goal, Goals, Clauses, Atomic, Cut, Either, Exists, Forall, Assume, Not, no_goals, goals, clause, no_clauses, clauses}
use Rattle.lp_gen.specs.declared.fault.GenRefusal.{GenRefusal}
use Rattle.lp_gen.specs.declared.fault.GenRefusal.TheVariants as refusal
use Rattle.lp_gen.specs.Steps.{constant_function}
use Rattle.lp_gen.specs.Registers.{past, SomeOfClauses, SomeOfQuery}

-- What is counted in terms, each thing by a number that is changed on the way to it: a node that is no application, and what an atom has besides; the number on the way to the head of an
-- application, and to an argument of it or below an abstraction.
pub record TermCounting : Type 0 where
  pub of_node : ℕ → ℕ
  pub of_atom : Atom → ℕ
  pub to_head : ℕ → ℕ
  pub to_part : ℕ → ℕ

abbrev pub term_counts : TermCounting → ℕ → Term → ℕ
term_counts k n (index i) = k.of_node n
term_counts k n (atom a) = k.of_node n + k.of_atom a
term_counts k n (abs b) = k.of_node n + term_counts k (k.to_part n) b
term_counts k n (app t u) = term_counts k (k.to_head n) t + term_counts k (k.to_part n) u

-- the same in goals and clauses: what a term has, from a number on, the end of a list of goals, and a clause; the number on the way into a block
pub record Counting : Type 0 where
  pub of_term : ℕ → Term → ℕ
  pub of_end : ℕ → ℕ
  pub of_clause : ℕ
  pub to_block : ℕ → ℕ

-- those of assumed clauses are counted too
abbrev mutual
  pub goal_counts : Counting → ℕ → Goal → ℕ
  goal_counts k n (Atomic a) = k.of_term 0 a
  goal_counts k n Cut = 0
  goal_counts k n (Either gs hs) = goals_counts k (k.to_block n) gs + goals_counts k (k.to_block n) hs
  goal_counts k n (Exists T gs) = goals_counts k n gs
  goal_counts k n (Forall T gs) = goals_counts k (k.to_block n) gs
  goal_counts k n (Assume w cs gs) = clauses_counts k (k.to_block n) cs + goals_counts k (k.to_block n) gs
  goal_counts k n (Not w gs) = goals_counts k (k.to_block n) gs

  pub goals_counts : Counting → ℕ → Goals → ℕ
  goals_counts k n no_goals = k.of_end n
  goals_counts k n (goals g gs) = goal_counts k n g + goals_counts k n gs

  pub clauses_counts : Counting → ℕ → Clauses → ℕ
  clauses_counts k n no_clauses = 0
  clauses_counts k n (clauses (clause m vs h b) cs) = k.of_clause + k.of_term 0 h + goals_counts k n b + clauses_counts k n cs

-- strings that are too long

abbrev pub atom_strings : Atom → ℕ
atom_strings (constant c ts) = 0
atom_strings (integer z) = 0
atom_strings (text s) = past 65535 (length s)
atom_strings (eigen k) = 0
atom_strings (logic x l) = 0
atom_strings (param k T) = 0

abbrev pub in_strings : TermCounting
in_strings = record { of_node = λ n. 0; of_atom = atom_strings; to_head = λ n. n; to_part = λ n. n }

abbrev pub of_strings : Counting
of_strings = record { of_term = term_counts in_strings; of_end = λ n. 0; of_clause = 0; to_block = λ n. n }

-- heads with too many arguments (the number says how many there are), and constants with too many types

abbrev pub atom_types : Atom → ℕ
atom_types (constant c ts) = past 255 (length ts)
atom_types (integer z) = 0
atom_types (text s) = 0
atom_types (eigen k) = 0
atom_types (logic x l) = 0
atom_types (param k T) = 0

abbrev pub in_arguments : TermCounting
in_arguments = record { of_node = past 255; of_atom = atom_types; to_head = suc; to_part = λ n. 0 }

abbrev pub of_arguments : Counting
of_arguments = record { of_term = term_counts in_arguments; of_end = λ n. 0; of_clause = 0; to_block = λ n. n }

-- what stands too deep in a term, and ends of lists of goals that stand too deep (the number says how deep)

abbrev pub in_nesting : TermCounting
in_nesting = record { of_node = past 2000; of_atom = λ a. 0; to_head = λ n. n; to_part = suc }

abbrev pub of_nesting : Counting
of_nesting = record { of_term = term_counts in_nesting; of_end = past 2000; of_clause = 0; to_block = suc }

-- records: one for each clause, also where it is assumed
abbrev pub of_records : Counting
of_records = record { of_term = λ n t. 0; of_end = λ n. 0; of_clause = 1; to_block = λ n. n }

abbrev pub long_strings : Term → ℕ
long_strings t = term_counts in_strings 0 t

abbrev pub goal_strings : Goal → ℕ
goal_strings g = goal_counts of_strings 0 g

abbrev pub goals_strings : Goals → ℕ
goals_strings gs = goals_counts of_strings 0 gs

abbrev pub clauses_strings : Clauses → ℕ
clauses_strings cs = clauses_counts of_strings 0 cs

abbrev pub goal_assumes : Goal → ℕ
goal_assumes g = goal_counts of_records 0 g

abbrev pub goals_assume : Goals → ℕ
goals_assume gs = goals_counts of_records 0 gs

abbrev pub clauses_records : Clauses → ℕ
clauses_records cs = clauses_counts of_records 0 cs

-- how many there are of each
pub record Counts : Type 0 where
  pub strings : ℕ
  pub arguments : ℕ
  pub nesting : ℕ
  pub records : ℕ

abbrev pub counts_of_clauses : Clauses → Counts
counts_of_clauses cs = record {
  strings = clauses_counts of_strings 0 cs;
  arguments = clauses_counts of_arguments 0 cs;
  nesting = clauses_counts of_nesting 0 cs;
  records = clauses_counts of_records 0 cs;
}

-- of a query's goals: its own record is not counted
abbrev pub counts_of_goals : Goals → Counts
counts_of_goals gs = record {
  strings = goals_counts of_strings 0 gs;
  arguments = goals_counts of_arguments 0 gs;
  nesting = goals_counts of_nesting 0 gs;
  records = goals_counts of_records 0 gs;
}

abbrev pub AreFew : Counts → Type 0
AreFew n = (n.strings ≡ 0) × (n.arguments ≡ 0) × (n.nesting ≡ 0) × (n.records ≤ 65535)

-- The first limit that is passed is told: strings, arguments, nesting, records, registers. `passes` says that some record passes what it may have.
abbrev pub IsTold : Counts → (passes : Type 0) → GenRefusal → Type 0
IsTold n P (refusal.Limit limit.Text) = 0 < n.strings
IsTold n P (refusal.Limit limit.Arguments) = (n.strings ≡ 0) × (0 < n.arguments)
IsTold n P (refusal.Limit limit.Nesting) = (n.strings ≡ 0) × (n.arguments ≡ 0) × (0 < n.nesting)
IsTold n P (refusal.Limit limit.Clauses) = (n.strings ≡ 0) × (n.arguments ≡ 0) × (n.nesting ≡ 0) × (65535 < n.records)
IsTold n P (refusal.Limit limit.Registers) = AreFew n × P
IsTold n P (refusal.Limit l) = ⊥
IsTold n P refusal.Memory = Unit {0}

-- some record of clauses, or of a query, has more registers or code than it may have

abbrev pub ClausesFull : Nodes → List Declared → List code_clause.Clause → Type 0
ClausesFull b ds cs = SomeOfClauses (constant_function b ds) (map (clause_of b) cs)

abbrev pub QueryFull : Nodes → List Declared → program.Typed → List code_goal.Goal → Type 0
QueryFull b ds q gs = SomeOfQuery (constant_function b ds) q.type_vars (map (λ v. type_tree b v.1.0) q.vars.items) (goals_of b gs)

abbrev pub ClausesPass : Nodes → List Declared → List code_clause.Clause → GenRefusal → Type 0
ClausesPass b ds cs e = IsTold (counts_of_clauses (clauses_of b cs)) (ClausesFull b ds cs) e

abbrev pub ClausesWithin : Nodes → List Declared → List code_clause.Clause → Type 0
ClausesWithin b ds cs = AreFew (counts_of_clauses (clauses_of b cs)) × (ClausesFull b ds cs → ⊥)

abbrev pub QueryPasses : Nodes → List Declared → program.Typed → List code_goal.Goal → GenRefusal → Type 0
QueryPasses b ds q gs e = IsTold (counts_of_goals (goals_of b gs)) (QueryFull b ds q gs) e

abbrev pub QueryWithin : Nodes → List Declared → program.Typed → List code_goal.Goal → Type 0
QueryWithin b ds q gs = AreFew (counts_of_goals (goals_of b gs)) × (QueryFull b ds q gs → ⊥)

-- limits of code alone: the others are not passed by clauses of which there is code
abbrev pub IsOfCode : GenRefusal → Type 0
IsOfCode (refusal.Limit limit.Text) = Unit {0}
IsOfCode (refusal.Limit limit.Clauses) = Unit {0}
IsOfCode (refusal.Limit limit.Registers) = Unit {0}
IsOfCode (refusal.Limit l) = ⊥
IsOfCode refusal.Memory = Unit {0}

-- constants have at most 255 type variables
abbrev pub HaveFewTypes : (constants : ℕ → Option Scheme) → Type 0
HaveFewTypes f = (c : ℕ) (s : Scheme) → f c ≡ Some s → s.count ≤ 255
