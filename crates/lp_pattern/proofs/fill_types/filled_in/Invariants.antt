use Rattle.std.proofs.Common.{ℕ, ◌<◌, length}
use Rattle.std.specs.Prelude.{All}
use Rattle.lp_calculus.specs.Types.{Ty}
use Rattle.lp_term.specs.Nodes.{Extends}
use Rattle.lp_pattern.specs.Under.{AreTypes}
use Rattle.lp_pattern.specs.Filling.{AreFilled}
use Rattle.lp_pattern.specs.inner.Making.{types_left}
use Rattle.lp_pattern.proofs.fill_types.filled_in.Given as goal

abbrev pub invariant-types : goal.invariant-types
invariant-types l = record {
  kept : Extends l.fn.bank l.bank;
  later : Extends l.initial.bank l.bank;
  inside : All (λ t. t.0 < length l.bank.types) l.left.items;
  filled : (θ : ℕ → Ty) → AreTypes l.fn.bank l.bindings θ → AreFilled l.fn.bank θ l.fn.done → AreFilled l.bank θ l.done;
}

abbrev pub decreases-types : goal.decreases-types
decreases-types l = types_left l.done l.left.items
