use Rattle.std.proofs.Common.{[], drop}
use Rattle.lp_link.specs.Linked.{kinds_of}
use Rattle.lp_link.specs.Names.{hidden_of, kind_rows, hidden_kind_rows}
use Rattle.lp_link.specs.inner.Tabled.{arities_of, KindsSoFar}
use Rattle.lp_link.specs.inner.Named.{AddsHidden, SoFar}
use Rattle.lp_link.proofs.image.Making.add_hidden_kinds.Given as goal

abbrev pub invariant-loop-at : goal.invariant-loop-at
invariant-loop-at l =
    KindsSoFar l.fn.self l.self (hidden_of (drop l.at (kinds_of l.copy.member.now.object.now)) (drop l.at (arities_of l.copy.member.now.object.now)))
    (hidden_of (kinds_of l.copy.member.now.object.now) (arities_of l.copy.member.now.object.now))
    × SoFar (λ ks. AddsHidden l.fn.self l.self ks []) (hidden_of (drop l.at (kinds_of l.copy.member.now.object.now)) (drop l.at (kind_rows l.copy.member.now.object.now)))
    (hidden_kind_rows l.copy.member.now.object.now)
