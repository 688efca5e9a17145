use Rattle.std.proofs.Common.{[], drop, map}
use Rattle.lp_term.specs.Memo.{AreMade}
use Rattle.lp_link.specs.Linked.{constants_of, map_of}
use Rattle.lp_link.specs.Names.{exported_of, moved_schemes, as_global, constant_rows, exported_constant_rows}
use Rattle.lp_link.specs.inner.Entering.{open_copy}
use Rattle.lp_link.specs.inner.Tabled.{ConstantsSoFar}
use Rattle.lp_link.specs.inner.Named.{AddsRows, SoFar}
use Rattle.lp_link.proofs.image.Making.add_global_constants.Given as goal

abbrev pub invariant-loop-at : goal.invariant-loop-at
invariant-loop-at l =
    ConstantsSoFar l.fn.self l.self (exported_of (drop l.at (constants_of l.root.member.now.object.now))
    (drop l.at (moved_schemes (open_copy l.root)))) (exported_of (constants_of l.root.member.now.object.now) (moved_schemes (open_copy l.root)))
    × AreMade (map_of 0 (open_copy l.root)) l.root.member.now.object.now.bank l.self.bank l.types
    × SoFar (λ cs. AddsRows l.fn.self l.self [] (map as_global cs)) (exported_of (drop l.at (constants_of l.root.member.now.object.now)) (drop l.at (constant_rows l.root.member.now.object.now)))
    (exported_constant_rows l.root.member.now.object.now)
