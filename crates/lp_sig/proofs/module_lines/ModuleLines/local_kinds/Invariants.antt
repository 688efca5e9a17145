use Rattle.std.proofs.Common.{List, take}
use Rattle.std.specs.Prelude.{All}
use Rattle.lp_sig.specs.Rows.{Row}
use Rattle.lp_sig.specs.Said.{Said, a_kind}
use Rattle.lp_sig.specs.Words.{IsMeant, IsNumbered}
use Rattle.lp_sig.specs.Knowing.{Knows}
use Rattle.lp_sig.specs.ModuleFaults.{exports_kind, IsLocal}
use Rattle.lp_sig.proofs.module_lines.ModuleLines.local_kinds.Given as goal

abbrev pub invariant-loop-name : goal.invariant-loop-name
invariant-loop-name l = (said : List (Row Said)) → Knows l.making.names said → All (IsLocal (exports_kind l.self.own.now) l.self.source.now
    (λ s. IsMeant l.self.source.now said (a_kind l.arity) s × IsNumbered l.self.source.now said s)) (take l.name-index l.names)
