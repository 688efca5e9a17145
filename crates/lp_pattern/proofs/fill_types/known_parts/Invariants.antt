use Rattle.std.proofs.Common.{◌≡◌, ◌+◌, ◌<◌, ◌≤◌, if◌then◌else◌, ℕ, true}
use Rattle.std.specs.Prelude.{All}
use Rattle.lp_calculus.specs.Types.{Ty}
use Rattle.lp_term.specs.Nodes.{Nodes}
use Rattle.lp_pattern.specs.Filling.{AreFilled, HaveBecome}
use Rattle.lp_pattern.specs.inner.Making.{unmade, type_made}
use Rattle.lp_pattern.proofs.fill_types.known_parts.Given as goal

abbrev pub invariant-loop-part : goal.invariant-loop-part
invariant-loop-part l = record {
  become : l.is_whole ≡ true → (b : Nodes) (θ : ℕ → Ty) → AreFilled b θ l.done → HaveBecome b θ l.yielded l.made.items;
  within : (n : ℕ) → All (λ t. t.0 < n) l.yielded → All (λ t. t.0 < n) l.initial.left.items → All (λ t. t.0 < n) l.left.items;
  further : unmade (type_made l.done) l.initial.left.items + (if l.is_whole then 0 else 1) ≤ unmade (type_made l.done) l.left.items;
}
