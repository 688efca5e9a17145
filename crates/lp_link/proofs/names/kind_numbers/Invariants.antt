use Rattle.std.specs.Prelude.{option_map}
use Rattle.lp_link.specs.Linked.{kind_above, kinds_of}
use Rattle.lp_link.specs.inner.Entering.{open_copy}
use Rattle.lp_link.specs.inner.Naming.{AreNumbersSoFar}
use Rattle.lp_link.proofs.names.kind_numbers.Given as goal

abbrev pub invariant-loop-at : goal.invariant-loop-at
invariant-loop-at l = AreNumbersSoFar (kind_above (option_map (λ o. open_copy o.now) l.above)) 8 l.first (kinds_of l.member.object.now) l.at l.numbers.items l.global l.hidden
