use Rattle.std.proofs.Common.{map, nat_eq}
use Rattle.indexmap.specs.IndexSet.{contains}
use Rattle.lp_plain.specs.inner.Looking.{Leads, open_types, type_weight, weight_of_all}
use Rattle.lp_plain.proofs.variables.has_type_variable.Given as goal

abbrev pub invariant-types : goal.invariant-types
invariant-types l = Leads (open_types l.bank) (type_weight l.bank) (map (λ t. t.0) l.types) (map (λ t. t.0) l.left.items) (contains nat_eq l.seen)

abbrev pub decreases-types : goal.decreases-types
decreases-types l = weight_of_all (type_weight l.bank) (map (λ t. t.0) l.left.items)
