use Rattle.std.proofs.Common.{◌≡◌, ◌≤◌, ℕ, List, drop, length}
use Rattle.std.specs.Str.{bytes_eq}
use Rattle.indexmap.specs.IndexSet.{contains_by}
use Rattle.lp_model.specs.Shown.{has_name}
use Rattle.lp_show.specs.Glossary.{entries_of}
use Rattle.lp_show.proofs.names.taken_of.Given as goal

abbrev pub invariant-entries : goal.invariant-entries
invariant-entries l = record {
  within : l.left ≤ length l.entries;
  taken : (n : List ℕ) → contains_by (λ k. bytes_eq n k.items) l.taken ≡ has_name n (entries_of (drop l.left l.entries));
}

abbrev pub decreases-entries : goal.decreases-entries
decreases-entries l = l.left
