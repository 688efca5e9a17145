use Rattle.std.proofs.Common.{ℕ, List, take, ◌++◌}
use Rattle.lp_standard.specs.declared.fixity.Fixity.{Fixity}
use Rattle.lp_sig.specs.Rows.{Row}
use Rattle.lp_sig.specs.Said.{each}
use Rattle.lp_sig.specs.Knowing.{KnowsOperators}
use Rattle.lp_sig.proofs.operators.Operators.declare_each.Given as goal

abbrev pub invariant-loop-name : goal.invariant-loop-name
invariant-loop-name l = (said : List (Row (Fixity × ℕ))) → KnowsOperators l.fn.self said → KnowsOperators l.self (said ++ each l.source (l.fixity, l.number) (take l.name-index l.names))
