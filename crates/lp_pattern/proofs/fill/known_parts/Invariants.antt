use Rattle.std.proofs.Common.{◌≡◌, ◌+◌, ◌<◌, ◌≤◌, if◌then◌else◌, ℕ, true}
use Rattle.std.specs.Prelude.{All}
use Rattle.lp_term.specs.Nodes.{Nodes}
use Rattle.lp_model.specs.Pair.{Closing}
use Rattle.lp_pattern.specs.FillingTerms.{AreAllFilled, TermsBecome}
use Rattle.lp_pattern.specs.inner.Making.{unmade, term_made}
use Rattle.lp_pattern.proofs.fill.known_parts.Given as goal

abbrev pub invariant-loop-part : goal.invariant-loop-part
invariant-loop-part l = record {
  become : l.is_whole ≡ true → (b : Nodes) (c : Closing) → AreAllFilled b c l.done → TermsBecome b c l.yielded l.made.items;
  within : (n : ℕ) → All (λ t. t.0 < n) l.yielded → All (λ t. t.0 < n) l.initial.left.items → All (λ t. t.0 < n) l.left.items;
  further : unmade (term_made l.done) l.initial.left.items + (if l.is_whole then 0 else 1) ≤ unmade (term_made l.done) l.left.items;
}
