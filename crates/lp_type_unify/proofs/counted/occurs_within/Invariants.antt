use Rattle.std.proofs.Common.{◌≡◌, ◌+◌, ◌<◌, length}
use Rattle.std.specs.Prelude.{All}
use Rattle.lp_calculus.specs.Types.{instance}
use Rattle.lp_term.specs.Nodes.{type_tree}
use Rattle.lp_type_laws.specs.Equations.{occurs}
use Rattle.lp_type_laws.specs.Units.{visited}
use Rattle.lp_type_unify.specs.Reading.{reads}
use Rattle.lp_type_unify.specs.Looking.{occurs_some, visited_some, size_of_all, read_stack}
use Rattle.lp_type_unify.proofs.counted.occurs_within.Given as goal

abbrev pub invariant-types : goal.invariant-types
invariant-types l = record {
  stacked : All (λ t. t.0 < length l.bank.types) l.stack.items;
  found : occurs_some l.variable (read_stack (type_tree l.bank) (reads l.bank l.bindings.made) l.stack.items) ≡ occurs l.variable (instance (reads l.bank l.bindings.made) (type_tree l.bank l.fn.id.0));
  spent : visited l.variable (instance (reads l.bank l.bindings.made) (type_tree l.bank l.fn.id.0)) + l.rest ≡ l.fn.left + visited_some l.variable (read_stack (type_tree l.bank) (reads l.bank l.bindings.made) l.stack.items);
}

abbrev pub decreases-types : goal.decreases-types
decreases-types l = size_of_all (read_stack (type_tree l.bank) (reads l.bank l.bindings.made) l.stack.items)
