use Rattle.indexmap.specs.IndexSet.{contains}
use Rattle.lp_term.specs.Nodes.{type_tree}
use Rattle.lp_link.specs.Sizes.{pair_work}
use Rattle.lp_link.specs.Differences.{same_type}
use Rattle.lp_link.specs.inner.Pairs.{kinds_at, pair_eq, IsOpen}
use Rattle.lp_link.proofs.differ.Edge.is_type.Given as goal

abbrev pub decreases-types : goal.decreases-types
decreases-types l = pair_work l.bank l.work.items

abbrev pub invariant-types : goal.invariant-types
invariant-types l = IsOpen (kinds_at l.self) l.bank l.other (same_type (kinds_at l.self) (type_tree l.bank l.fn.below.0) (type_tree l.other l.fn.above.0)) (contains pair_eq l.seen) l.work.items
