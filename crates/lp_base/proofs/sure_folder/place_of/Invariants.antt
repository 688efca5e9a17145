use Rattle.std.proofs.Common.{◌≡◌, ◌≢◌, ℕ, ◌<◌, drop}
use Rattle.lp_base.specs.Files.{found, name_at}
use Rattle.lp_base.proofs.sure_folder.place_of.Given as goal

abbrev pub invariant-loop-i : goal.invariant-loop-i
invariant-loop-i l =
    (found l.files l.name ≡ found (drop l.i l.files) l.name) × ((k : ℕ) → k < l.i → name_at l.files k ≢ l.name)
