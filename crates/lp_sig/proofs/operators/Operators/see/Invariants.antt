use Rattle.std.proofs.Common.{ℕ, List, map, take, ◌++◌}
use Rattle.lp_standard.specs.declared.fixity.Fixity.{Fixity}
use Rattle.lp_sig.specs.Rows.{Row, fixity_row}
use Rattle.lp_sig.specs.Knowing.{KnowsOperators}
use Rattle.lp_sig.proofs.operators.Operators.see.Given as goal

abbrev pub invariant-loop-at : goal.invariant-loop-at
invariant-loop-at l = (said : List (Row (Fixity × ℕ))) → KnowsOperators l.fn.self said → KnowsOperators l.self (said ++ map fixity_row (take l.at l.entries))
