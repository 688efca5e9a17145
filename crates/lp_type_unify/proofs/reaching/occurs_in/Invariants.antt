use Rattle.std.proofs.Common.{◌≡◌, ◌<◌, suc, length, nat_eq}
use Rattle.std.specs.Prelude.{All, true}
use Rattle.indexmap.specs.IndexSet.{contains}
use Rattle.lp_calculus.specs.Types.{instance}
use Rattle.lp_term.specs.Nodes.{type_tree}
use Rattle.lp_type_laws.specs.Equations.{occurs, size}
use Rattle.lp_type_unify.specs.Reading.{reads}
use Rattle.lp_type_unify.specs.Looking.{occurs_some, size_of_all, read_stack}
use Rattle.lp_type_unify.specs.Sharing.{Lies}
use Rattle.lp_type_unify.proofs.Sights.{AreMet}
use Rattle.lp_type_unify.proofs.reaching.occurs_in.Given as goal

abbrev pub invariant-types : goal.invariant-types
invariant-types l = record {
  stacked : All (λ t. t.0 < length l.bank.types) l.stack.items;
  honest : occurs_some l.variable (read_stack (type_tree l.bank) (reads l.bank l.bindings.made) l.stack.items) ≡ true →
      occurs l.variable (instance (reads l.bank l.bindings.made) (type_tree l.bank l.fn.id.0)) ≡ true;
  wanted : occurs l.variable (instance (reads l.bank l.bindings.made) (type_tree l.bank l.fn.id.0)) ≡ true →
      Lies l.variable (suc (size (instance (reads l.bank l.bindings.made) (type_tree l.bank l.fn.id.0)))) (read_stack (type_tree l.bank) (reads l.bank l.bindings.made) l.stack.items);
  met : AreMet l.variable (λ i. instance (reads l.bank l.bindings.made) (type_tree l.bank i)) (contains nat_eq l.seen)
      (read_stack (type_tree l.bank) (reads l.bank l.bindings.made) l.stack.items);
}

abbrev pub decreases-types : goal.decreases-types
decreases-types l = size_of_all (read_stack (type_tree l.bank) (reads l.bank l.bindings.made) l.stack.items)
