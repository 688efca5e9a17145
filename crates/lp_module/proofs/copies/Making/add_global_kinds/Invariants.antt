use Rattle.std.proofs.Common.{[], map, take}
use Rattle.lp_module.specs.Making.{MakesNames}
use Rattle.lp_module.specs.Program.{kind_as, exported_among}
use Rattle.lp_module.specs.inner.Assembling.{AddsNames}
use Rattle.lp_module.proofs.copies.Making.add_global_kinds.Given as goal

abbrev pub invariant-loop-at : goal.invariant-loop-at
invariant-loop-at l =
    MakesNames l.fn.self l.self × AddsNames l.fn.self l.self (map (kind_as 0) (exported_among 8 l.root.module.now.hidden_kinds.items (take l.at l.root.module.now.signature.kinds.items))) [] []
