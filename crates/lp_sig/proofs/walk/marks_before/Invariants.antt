use Rattle.std.proofs.Common.{◌≡◌, ℕ, ◌<◌, ◌≤◌, true, false, get_or}
use Rattle.lp_sig.proofs.walk.marks_before.Given as goal

abbrev pub invariant-loop-place : goal.invariant-loop-place
invariant-loop-place l = record {
  within : l.place ≤ l.from;
  marked : (k : ℕ) → k < l.count → get_or l.marks.items k true ≡ true → k < l.place;
  clear : (k : ℕ) → get_or l.marks.items k true ≡ false → l.place ≤ k;
}
