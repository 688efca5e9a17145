use Rattle.std.proofs.Common.{List, take, ◌++◌}
use Rattle.lp_sig.specs.Rows.{Row}
use Rattle.lp_sig.specs.Said.{Said, a_kind, each}
use Rattle.lp_sig.specs.Knowing.{Knows}
use Rattle.lp_sig.proofs.names.Names.announce_kinds.Given as goal

abbrev pub invariant-loop-name : goal.invariant-loop-name
invariant-loop-name l = (said : List (Row Said)) → Knows l.fn.self said → Knows l.self (said ++ each l.source (a_kind l.arity) (take l.name-index l.names))
