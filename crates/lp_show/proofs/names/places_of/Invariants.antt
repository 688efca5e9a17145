use Rattle.std.proofs.Common.{◌≡◌, ◌≤◌, ℕ, drop, length}
use Rattle.std.specs.Prelude.{nat_eq}
use Rattle.std.specs.HashMap.{get}
use Rattle.lp_show.specs.Glossary.{place_in}
use Rattle.lp_show.proofs.names.places_of.Given as goal

abbrev pub invariant-entries : goal.invariant-entries
invariant-entries l = record {
  within : l.left ≤ length l.entries;
  places : (c : ℕ) → get nat_eq l.places c ≡ place_in l.left (drop l.left l.entries) c;
}

abbrev pub decreases-entries : goal.decreases-entries
decreases-entries l = l.left
