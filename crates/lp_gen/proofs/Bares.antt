-- What is written in goals and clauses is told by the rest of them.
use Rattle.std.proofs.Common.{◌≡◌, ◌∙◌, ap, refl, sym}
use Rattle.lp_model.specs.Flat.{Goal, Goals, Clauses, Atomic, Cut, Either, Exists, Forall, Assume, Not, no_goals, goals, clause, no_clauses, clauses, assuming, denied}
use Rattle.lp_code.specs.Written.{nothing_written, written_goal, written_goals, written_clauses}
use Rattle.lp_gen.specs.inner.Bodies.{bare_goal, bare_goals, bare_clauses}

mutual
  written_bare_goal : (g : Goal) → written_goal (bare_goal g) ≡ written_goal g
  written_bare_goal (Atomic t) = refl
  written_bare_goal Cut = refl
  written_bare_goal (Either gs hs) = λ i. Either (written_bare gs i) (written_bare hs i)
  written_bare_goal (Exists T gs) = ap (Exists T) (written_bare gs)
  written_bare_goal (Forall T gs) = ap (Forall T) (written_bare gs)
  written_bare_goal (Assume w cs gs) = λ i. assuming (written_bare_clauses cs i) (written_bare gs i)
  written_bare_goal (Not w gs) = ap denied (written_bare gs)

  pub written_bare : (gs : Goals) → written_goals (bare_goals gs) ≡ written_goals gs
  written_bare no_goals = refl
  written_bare (goals g gs) = λ i. goals (written_bare_goal g i) (written_bare gs i)

  written_bare_clauses : (cs : Clauses) → written_clauses (bare_clauses cs) ≡ written_clauses cs
  written_bare_clauses no_clauses = refl
  written_bare_clauses (clauses (clause n vs h b) cs) = λ i. clauses (clause n vs h (written_bare b i)) (written_bare_clauses cs i)

mutual
  bare_written_goal : (g : Goal) → bare_goal (written_goal g) ≡ bare_goal g
  bare_written_goal (Atomic t) = refl
  bare_written_goal Cut = refl
  bare_written_goal (Either gs hs) = λ i. Either (bare_written gs i) (bare_written hs i)
  bare_written_goal (Exists T gs) = ap (Exists T) (bare_written gs)
  bare_written_goal (Forall T gs) = ap (Forall T) (bare_written gs)
  bare_written_goal (Assume w cs gs) = λ i. Assume nothing_written (bare_written_clauses cs i) (bare_written gs i)
  bare_written_goal (Not w gs) = ap (Not nothing_written) (bare_written gs)

  pub bare_written : (gs : Goals) → bare_goals (written_goals gs) ≡ bare_goals gs
  bare_written no_goals = refl
  bare_written (goals g gs) = λ i. goals (bare_written_goal g i) (bare_written gs i)

  bare_written_clauses : (cs : Clauses) → bare_clauses (written_clauses cs) ≡ bare_clauses cs
  bare_written_clauses no_clauses = refl
  bare_written_clauses (clauses (clause n vs h b) cs) = λ i. clauses (clause n vs h (bare_written b i)) (bare_written_clauses cs i)

-- goals that are the same but for what is written in them
pub written_same : (gs hs : Goals) → bare_goals gs ≡ bare_goals hs → written_goals gs ≡ written_goals hs
written_same gs hs e = sym (written_bare gs) ∙ ap written_goals e ∙ written_bare hs
