use Rattle.std.proofs.Common.{◌≡◌, ℕ, map, length}
use Rattle.std.specs.Prelude.{All}
use Rattle.lp_calculus.specs.Types.{Ty}
use Rattle.lp_term.specs.Nodes.{Extends}
use Rattle.lp_type_unify.specs.Reading.{IsPair}
use Rattle.lp_pattern.specs.Under.{AreTypes}
use Rattle.lp_pattern.specs.Filling.{AreFilled, AreIn, AreKnown, held, equation_under}
use Rattle.lp_pattern.proofs.types.filled_pairs.Given as goal

abbrev pub invariant-loop-pair : goal.invariant-loop-pair
invariant-loop-pair l = record {
  kept : Extends l.fn.bank l.bank;
  within : All (IsPair (length l.bank.types)) l.filled.items;
  held : (θ : ℕ → Ty) → AreTypes l.fn.bank l.bindings θ → AreKnown l.fn.bank l.yielded → AreFilled l.bank θ l.done × AreIn l.bank l.filled.items × (map (held l.bank) l.filled.items ≡ map (equation_under l.fn.bank θ) l.yielded);
}
