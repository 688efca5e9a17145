use Rattle.lp_infer.proofs.Principal.{solution_typing, typing_solution}
use Rattle.lp_infer.proofs.laws.typings_are_solutions.Goals as goal

pub returns-clause-solution : goal.returns-clause-solution
returns-clause-solution c = solution_typing

pub returns-clause-typing : goal.returns-clause-typing
returns-clause-typing c = typing_solution
