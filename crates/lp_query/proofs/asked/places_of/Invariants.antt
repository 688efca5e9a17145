use Rattle.std.proofs.Common.{◌≡◌, ◌<◌, ℕ, length, map, take, Some}
use Rattle.std.specs.Prelude.{All, slice_get}
use Rattle.lp_query.proofs.asked.places_of.Given as goal

abbrev pub invariant-shown : goal.invariant-shown
invariant-shown l =
    (length l.places.items ≡ l.at)
    × (All (λ p. p < length l.names) l.places.items × All (λ s. (at : ℕ) × (slice_get (map (λ n. n.items) l.names) at ≡ Some s)) (map (λ s. s.items) (take l.at l.shown)))
