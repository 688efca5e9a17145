use Rattle.std.proofs.Common.{◌≡◌, ◌<◌, ℕ, length}
use Rattle.lp_calculus.specs.Types.{Ty, instance}
use Rattle.lp_term.specs.Nodes.{type_tree}
use Rattle.lp_pattern.specs.Under.{AreTypes}
use Rattle.lp_pattern.proofs.fill_types.resolved.Given as goal

abbrev pub invariant-variables : goal.invariant-variables
invariant-variables l = record {
  within : l.fn.id.0 < length l.bank.types → l.top.0 < length l.bank.types;
  same : (θ : ℕ → Ty) → AreTypes l.bank l.bindings θ → instance θ (type_tree l.bank l.top.0) ≡ instance θ (type_tree l.bank l.fn.id.0);
}

abbrev pub decreases-variables : goal.decreases-variables
decreases-variables l = l.left
