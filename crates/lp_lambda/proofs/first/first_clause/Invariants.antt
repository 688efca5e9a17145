use Rattle.std.proofs.Common.{take}
use Rattle.lp_lambda.specs.First.{terms_of, ArePatternClauses}
use Rattle.lp_lambda.proofs.first.first_clause.Given as goal

abbrev pub invariant-loop-place : goal.invariant-loop-place
invariant-loop-place l = ArePatternClauses (terms_of l.bank (take l.place l.clauses))
