-- How far a walk has come, and one move of it.
use Rattle.std.specs.Prelude.{◌≡◌, ℕ, ◌+◌, ◌<◌, List, [], ◌∷◌, reverse, Bool, true, false}
use Rattle.lp_module.specs.Order.{Way, Visits}
use Rattle.lp_module.specs.Searching.{Goes, load, open_load}
use Rattle.lp_module.specs.declared.visits.Walk.{Walk}

abbrev pub IsWalk : List (List Way) → Walk → Type 0
IsWalk ways w = Goes ways w.root w.seen.items w.order.items w.at w.next (reverse w.around.items)

abbrev pub whole_load : List (List Way) → Walk → ℕ
whole_load ways w = load ways w.seen.items + open_load ways ((w.at, w.next) ∷ reverse w.around.items)

-- a move: the walk goes on and less is left to do, or it has ended
abbrev pub Moves : List (List Way) → Walk → Walk → Bool → Type 0
Moves ways old new true = IsWalk ways new × (new.root ≡ old.root) × (whole_load ways new < whole_load ways old)
Moves ways old new false = Visits ways [] (old.root ∷ []) new.order.items
