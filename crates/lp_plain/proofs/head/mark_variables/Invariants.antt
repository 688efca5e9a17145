use Rattle.std.specs.Prelude.{All}
use Rattle.lp_plain.specs.inner.Placing.{IsShallow}
use Rattle.std.proofs.Common.{◌≡◌, ℕ, length, get_or, true}
use Rattle.std.specs.Prelude.{◌||◌, not}
use Rattle.lp_calculus.specs.Normal.{is_absent}
use Rattle.lp_term.specs.Nodes.{tree}
use Rattle.lp_plain.specs.Heads.{stands}
use Rattle.lp_plain.specs.inner.Placing.{places_weight}
use Rattle.lp_plain.proofs.head.mark_variables.Given as goal

abbrev pub invariant-places : goal.invariant-places
invariant-places l = record {
  count : length l.seen.items ≡ length l.fn.seen.items;
  marks : (k : ℕ) → (get_or l.seen.items k true || stands l.bank k l.places.items) ≡ (get_or l.fn.seen.items k true || not (is_absent k (tree l.bank l.fn.term.0)));
  shallow : All (IsShallow l.bank) l.places.items;
}

abbrev pub decreases-places : goal.decreases-places
decreases-places l = places_weight l.bank l.places.items
