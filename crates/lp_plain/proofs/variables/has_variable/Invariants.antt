use Rattle.std.proofs.Common.{map, nat_eq, [], ◌∷◌}
use Rattle.indexmap.specs.IndexSet.{contains}
use Rattle.lp_plain.specs.inner.Looking.{IsClean, Leads, open_types, open_terms, term_weight, weight_of_all}
use Rattle.lp_plain.proofs.variables.has_variable.Given as goal

abbrev pub invariant-terms : goal.invariant-terms
invariant-terms l = IsClean (open_types l.bank) (contains nat_eq l.types) × Leads (open_terms l.bank) (term_weight l.bank) (l.fn.term.0 ∷ []) (map (λ t. t.0) l.left.items) (contains nat_eq l.seen)

abbrev pub decreases-terms : goal.decreases-terms
decreases-terms l = weight_of_all (term_weight l.bank) (map (λ t. t.0) l.left.items)
