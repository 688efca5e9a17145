-- A typed program of one sentence and a typed query, as the laws on what a search starts with take them.
use Rattle.std.specs.Prelude.{[], ◌∷◌, None, nat_lt, if◌then◌else◌, pos}
use Rattle.lp_calculus.specs.Types.{arrow}
use Rattle.lp_calculus.specs.Term.{Term, index, atom, abs, integer}
use Rattle.lp_calculus.specs.Typing.{o_type, int_type}
use Rattle.lp_standard.specs.Connectives.{two, pi_of}
use Rattle.lp_standard.specs.Schemes.{entry, standard_schemes, plain}
use Rattle.lp_model.specs.Flat.{Atomic, Goals, no_goals, goals, Clause, clause}
use Rattle.lp_model.specs.Flatten.{ClauseFormula}
use Rattle.lp_model.specs.Proofs.{Declared}
use Rattle.lp_model.specs.Answers.{Query}
use Rattle.lp_search_laws.specs.Worked.{on}

-- the constants 32 and 33 are predicates of an integer
abbrev pub declared : Declared
declared c = if nat_lt c 32 then entry standard_schemes c else (if nat_lt c 34 then plain (arrow int_type o_type) else None)

-- p X :- q X.
abbrev pub rule : ClauseFormula
rule = record { type_vars = 0; formula = pi_of int_type (abs (two 3 [] (on 32 (index 0)) (on 33 (index 0)))) }

abbrev pub flat_rule : Clause
flat_rule = clause 0 (int_type ∷ []) (on 32 (index 0)) (goals (Atomic (on 33 (index 0))) no_goals)

-- p X, X is 1 + 2.
abbrev sum : Term
sum = two 16 [] (atom (integer (pos 1))) (atom (integer (pos 2)))

abbrev pub query : Query
query = record { type_vars = 0; vars = int_type ∷ []; formula = two 0 [] (on 32 (index 0)) (two 9 (int_type ∷ []) (index 0) sum) }

abbrev pub flat_query : Goals
flat_query = goals (Atomic (on 32 (index 0))) (goals (Atomic (two 9 (int_type ∷ []) (index 0) sum)) no_goals)
