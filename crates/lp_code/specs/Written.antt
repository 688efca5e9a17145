-- Goals and clauses with what is written in each that is denied or assumed. It is known where the record's variables are bound: code that is run leaves it out.
use Rattle.std.specs.Prelude.{[]}
use Rattle.lp_model.specs.Flat.{Goal, Goals, Clause, Clauses, Written, Atomic, Cut, Either, Exists, Forall, Assume, Not, no_goals, goals, clause, no_clauses, clauses, assuming, denied}

abbrev pub nothing_written : Written
nothing_written = record { terms = []; types = [] }

abbrev mutual
  pub written_goal : Goal → Goal
  written_goal (Atomic t) = Atomic t
  written_goal Cut = Cut
  written_goal (Either gs hs) = Either (written_goals gs) (written_goals hs)
  written_goal (Exists T gs) = Exists T (written_goals gs)
  written_goal (Forall T gs) = Forall T (written_goals gs)
  written_goal (Assume w cs gs) = assuming (written_clauses cs) (written_goals gs)
  written_goal (Not w gs) = denied (written_goals gs)

  pub written_goals : Goals → Goals
  written_goals no_goals = no_goals
  written_goals (goals g gs) = goals (written_goal g) (written_goals gs)

  pub written_clauses : Clauses → Clauses
  written_clauses no_clauses = no_clauses
  written_clauses (clauses (clause n vs h b) cs) = clauses (clause n vs h (written_goals b)) (written_clauses cs)
