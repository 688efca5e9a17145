use Rattle.std.proofs.Common.{◌≡◌, map, take, Some}
use Rattle.std.specs.Prelude.{nat_eq}
use Rattle.indexmap.specs.IndexMap.{get}
use Rattle.lp_sig.proofs.interned.copies_of.Given as goal

abbrev pub invariant-loop-at : goal.invariant-loop-at
invariant-loop-at l = map (λ t. get nat_eq l.made t.0) (take l.at l.ids) ≡ map (λ c. Some c.0) l.copies.items
