-- What a turn may tell, also where it does not come to its end: the first note of the definition's next move.
use Rattle.std.specs.Prelude.{◌≡◌, ◌⊎◌, Bool, ℕ, suc, ◌+◌, ◌≤◌, List, [], ◌∷◌}
use Rattle.lp_model.specs.Branch.{Answer, Task}
use Rattle.lp_model.specs.Flat.{Clause}
use Rattle.lp_model.specs.Search.{look}
use Rattle.lp_model.specs.Skeleton.{Breaks, Goes, Inner, Move, Note, State, Stops, Tells, Waits, move}
use Rattle.lp_model.specs.Unify.{unit_limit}
use Rattle.lp_model.specs.declared.program.Declared.{Declared as Named}
use Rattle.lp_watch.specs.Crowd.{Place}
use Rattle.lp_plain.specs.declared.machine.Machine.{Machine}
use Rattle.lp_plain.specs.Hearing.{HearsPart}

-- the move takes a step, and tells this first; or it waits
abbrev pub TellsFirst : Note → Move Task Answer → Type 0
TellsFirst n (Goes k ns t) = (1 ≤ k) × (ms : List Note) × (ns ≡ n ∷ ms)
TellsFirst n (Tells a ns t) = ⊥
TellsFirst n (Stops e) = ⊥
TellsFirst n (Breaks k ns e) = (1 ≤ k) × (ms : List Note) × (ns ≡ n ∷ ms)
TellsFirst n (Waits k ns) = Unit {0}

-- so in this state while answers are wanted, over each program, with any number of steps for each look
abbrev pub IsToldFirst : State Task → Note → Type 0
IsToldFirst s n = (k : ℕ) → s.answers ≡ suc k → (go : (Answer → Bool) → State Task → Inner) (enough : ℕ) (P : List Clause) → TellsFirst n (move go (look unit_limit enough P) s)

-- nothing was heard, or that note, at least by a first part of the watchers
abbrev pub HearsFirst : List Named → (old new : List Place) → State Task → Type 0
HearsFirst cs old new s = (new ≡ old) ⊎ ((n : Note) × IsToldFirst s n × HearsPart cs (n ∷ []) old new)

-- no step was counted, or the one that this move takes
abbrev pub CountsFirst : (old new : Machine) → State Task → Type 0
CountsFirst m n s = (n.counts.steps ≡ m.counts.steps) ⊎ ((n.counts.steps ≡ m.counts.steps + 1) × (x : Note) × IsToldFirst s x)
