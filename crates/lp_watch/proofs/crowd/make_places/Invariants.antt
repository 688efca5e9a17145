use Rattle.std.proofs.Common.{◌≡◌, ◌++◌, ◌+◌, ℕ, None, replicate}
use Rattle.lp_watch.specs.Crowd.{open_places}
use Rattle.lp_watch.proofs.crowd.make_places.Given as goal

abbrev pub invariant-loop : goal.invariant-loop
invariant-loop l =
    (n : ℕ) × (l.texts.items ≡ l.fn.texts.items ++ replicate n None) × (l.counter ≡ l.open + n) × (open_places l.texts.items ≡ l.counter)
