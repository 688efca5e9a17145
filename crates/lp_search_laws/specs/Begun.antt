-- The branch that a search starts with, and its typing.
use Rattle.std.specs.Prelude.{ℕ, suc, ◌-◌, [], map, length}
use Rattle.lp_calculus.specs.Term.{atom, logic}
use Rattle.lp_model.specs.Flat.{Goals, goal_list, instantiate_goals}
use Rattle.lp_model.specs.Answers.{Query}
use Rattle.lp_model.specs.Branch.{Branch, entries, nothing_written}
use Rattle.lp_model.specs.Search.{vars_from, types_from}
use Rattle.lp_search_laws.specs.Branches.{BranchTyping}
use Rattle.lp_search_laws.specs.Started.{outermost}

-- the first goals over j type variables and k variables, as `start` puts them
abbrev pub first_branch : (j k : ℕ) → Goals → Branch
first_branch j k gs = record {
  next = k;
  next_type = j;
  goals = entries (goal_list (instantiate_goals (λ i. atom (logic (k - suc i) 0)) gs)) [] nothing_written 0 0;
  types = types_from j 0;
  values = vars_from k 0;
  pairs = [];
}

-- the query's variables, and no eigenconstants
abbrev pub first_typing : Query → Goals → BranchTyping
first_typing q gs = record {
  answer = record { variables = map outermost q.vars; pairs = [] };
  eigens = map (λ g. []) (goal_list (instantiate_goals (λ i. atom (logic (length q.vars - suc i) 0)) gs));
}
