use Rattle.std.proofs.Common.{◌≡◌, ◌<◌, ℕ, length}
use Rattle.std.specs.Prelude.{nat_eq, unwrap_or}
use Rattle.indexmap.specs.IndexMap.{get}
use Rattle.lp_term.specs.Mapped.{mapped_type}
use Rattle.lp_term.specs.Nodes.{type_tree}
use Rattle.lp_build.specs.Queried.{with_kinds}
use Rattle.lp_build.proofs.queries.types_of.Given as goal

abbrev pub invariant-loop-number : goal.invariant-loop-number
invariant-loop-number l = record {
  count : length l.types.types ≡ l.number;
  trees : (i : ℕ) → i < l.number → type_tree l.types i ≡ mapped_type (with_kinds (λ k. unwrap_or (get nat_eq l.numbers k) k)) (type_tree l.bank i);
}
