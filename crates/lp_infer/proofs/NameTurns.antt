-- Each task that is done leaves fewer turns.
use Rattle.std.proofs.Common.{◌≡◌, ℕ, suc, ◌+◌, ◌-◌, ◌<◌, List, ◌∷◌, Option, ap, arith}
use Rattle.lp_base.specs.declared.place.Spot.{Spot}
use Rattle.lp_infer.specs.inner.Turns.{turns_of}
use Rattle.lp_infer.specs.inner.Rooms.{turns}
use Rattle.lp_infer.proofs.Turns.{some}
use Rattle.lp_infer.specs.declared.names.Task.{Task}
use Rattle.lp_infer.specs.declared.names.Task.TheVariants.{Visit, Leave}

pub room_left : (room : ℕ) → (room ≡ 0 → ⊥) → room ≡ suc (room - 1)
room_left room apart = omega (arith, apart)

pub leaf_left : (n room : ℕ) (ts : List Task) → turns ts < turns (Visit n room ∷ ts)
leaf_left n room ts = let h = some room in omega (arith, h)

pub end_left : (x : Spot) (outside : Option ℕ) (ts : List Task) → turns ts < turns (Leave x outside ∷ ts)
end_left x outside ts = omega arith

pub application_left : (n f a room k : ℕ) (ts todo : List Task) → room ≡ suc k → todo ≡ Visit f k ∷ Visit a k ∷ ts → turns todo < turns (Visit n room ∷ ts)
application_left n f a room k ts todo e d =
    let l : turns todo ≡ turns_of k + (turns_of k + turns ts) = ap turns d in
    let r : turns_of room ≡ turns_of k + turns_of k + 2 = ap turns_of e in
    omega (arith, l, r)

pub abstraction_left : (n b room k : ℕ) (x : Spot) (outside : Option ℕ) (ts todo : List Task) → room ≡ suc k → todo ≡ Visit b k ∷ Leave x outside ∷ ts → turns todo < turns (Visit n room ∷ ts)
abstraction_left n b room k x outside ts todo e d =
    let l : turns todo ≡ turns_of k + suc (turns ts) = ap turns d in
    let r : turns_of room ≡ turns_of k + turns_of k + 2 = ap turns_of e in
    let h = some k in
    omega (arith, l, r, h)
