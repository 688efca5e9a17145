use Rattle.std.proofs.Common.{take, map}
use Rattle.std.specs.Prelude.{All}
use Rattle.lp_lambda.specs.First.{formulas_of, ArePatternClauses}
use Rattle.lp_lambda.proofs.first.first_in.Given as goal

abbrev pub invariant-loop-place : goal.invariant-loop-place
invariant-loop-place l = All ArePatternClauses (map formulas_of (take l.place l.modules))
