use Rattle.std.proofs.Common.{List, take}
use Rattle.lp_sig.specs.Rows.{Row}
use Rattle.lp_sig.specs.Said.{Said, a_kind}
use Rattle.lp_sig.specs.Limits.{AreShort}
use Rattle.lp_sig.specs.Words.{AreMeant, AreNumbered}
use Rattle.lp_sig.specs.Knowing.{Knows}
use Rattle.lp_sig.proofs.names.Names.declare_kinds.Given as goal

abbrev pub invariant-loop-name : goal.invariant-loop-name
invariant-loop-name l = record {
  short : AreShort l.source (take l.name-index l.names);
  meant : (said : List (Row Said)) → Knows l.self said → AreMeant l.source said (a_kind l.arity) (take l.name-index l.names);
  numbered : (said : List (Row Said)) → Knows l.self said → AreNumbered l.source said (take l.name-index l.names);
}
