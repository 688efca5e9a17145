use Rattle.std.proofs.Common.{[], drop}
use Rattle.lp_term.specs.Memo.{AreMade}
use Rattle.lp_link.specs.Linked.{constants_of, map_of}
use Rattle.lp_link.specs.Names.{hidden_of, moved_schemes, constant_rows, hidden_constant_rows}
use Rattle.lp_link.specs.inner.Entering.{open_copy}
use Rattle.lp_link.specs.inner.Tabled.{ConstantsSoFar}
use Rattle.lp_link.specs.inner.Named.{AddsHidden, SoFar}
use Rattle.lp_link.proofs.image.Making.add_hidden_constants.Given as goal

abbrev pub invariant-loop-at : goal.invariant-loop-at
invariant-loop-at l =
    ConstantsSoFar l.fn.self l.self (hidden_of (drop l.at (constants_of l.copy.member.now.object.now)) (drop l.at (moved_schemes (open_copy l.copy))))
    (hidden_of (constants_of l.copy.member.now.object.now) (moved_schemes (open_copy l.copy)))
    × AreMade (map_of 0 (open_copy l.copy)) l.copy.member.now.object.now.bank l.self.bank l.types
    × SoFar (λ cs. AddsHidden l.fn.self l.self [] cs) (hidden_of (drop l.at (constants_of l.copy.member.now.object.now)) (drop l.at (constant_rows l.copy.member.now.object.now)))
    (hidden_constant_rows l.copy.member.now.object.now)
