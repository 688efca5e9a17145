use Rattle.std.proofs.Common.{take}
use Rattle.lp_normal.specs.Making.{IsScopeOf}
use Rattle.lp_normal.proofs.clauses.ClauseList.scope.Given as goal

abbrev pub invariant-links : goal.invariant-links
invariant-links l = IsScopeOf (take l.link-index l.around) l.scope
