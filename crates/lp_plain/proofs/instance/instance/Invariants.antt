use Rattle.std.proofs.Common.{length, reverse}
use Rattle.lp_plain.specs.inner.Building.{IsFed, toil}
use Rattle.std.proofs.Common.{ℕ, List}
use Rattle.lp_calculus.specs.Term.{Term}
use Rattle.lp_term.specs.Nodes.{Extends, tree}
use Rattle.lp_term.specs.declared.node.TermId.{TermId}
use Rattle.lp_plain.specs.Instances.{instanced, StandFor, IsReadable, ToInstance}
use Rattle.lp_plain.specs.Renewal.{renewing}
use Rattle.lp_plain.specs.Scopes.{IsScope}
use Rattle.lp_plain.proofs.instance.instance.Given as goal

abbrev pub invariant-tasks : goal.invariant-tasks
invariant-tasks l = record {
  kept : Extends l.fn.bank l.bank;
  left : (nb nv : ℕ) → (vs : List TermId) → IsScope l.scopes nb nv l.values.scope vs → (σ : ℕ → Term) → StandFor l.fn.bank vs σ → IsReadable (length vs) 0 (tree l.fn.bank l.fn.term.0) →
      ToInstance (length vs) σ (renewing l.values.types) l.bank l.tasks.items l.made.items (instanced σ (renewing l.values.types) 0 (tree l.fn.bank l.fn.term.0));
  fed : IsFed l.bank (reverse l.tasks.items) (length l.made.items);
}

abbrev pub decreases-tasks : goal.decreases-tasks
decreases-tasks l = toil l.bank (reverse l.tasks.items)
