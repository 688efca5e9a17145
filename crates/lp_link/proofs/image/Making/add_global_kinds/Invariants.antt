use Rattle.std.proofs.Common.{[], drop, map}
use Rattle.lp_link.specs.Linked.{kinds_of}
use Rattle.lp_link.specs.Names.{exported_of, as_global, kind_rows, exported_kind_rows}
use Rattle.lp_link.specs.inner.Tabled.{arities_of, KindsSoFar}
use Rattle.lp_link.specs.inner.Named.{AddsRows, SoFar}
use Rattle.lp_link.proofs.image.Making.add_global_kinds.Given as goal

abbrev pub invariant-loop-at : goal.invariant-loop-at
invariant-loop-at l =
    KindsSoFar l.fn.self l.self (exported_of (drop l.at (kinds_of l.root.member.now.object.now))
    (drop l.at (arities_of l.root.member.now.object.now))) (exported_of (kinds_of l.root.member.now.object.now)
    (arities_of l.root.member.now.object.now))
    × SoFar (λ ks. AddsRows l.fn.self l.self (map as_global ks) []) (exported_of (drop l.at (kinds_of l.root.member.now.object.now)) (drop l.at (kind_rows l.root.member.now.object.now)))
    (exported_kind_rows l.root.member.now.object.now)
