-- The marks of the goals from a frame on: how many alternatives a cut in them keeps.
use Rattle.std.specs.Prelude.{◌≡◌, ℕ, suc, ◌≤◌, List, [], ◌∷◌, ◌++◌, drop, length, take, Option, None, Some, slice_get}
use Rattle.lp_plain.specs.declared.choice.Choice.{Choice}
use Rattle.lp_plain.specs.declared.choice.Untried.{Untried}
use Rattle.lp_plain.specs.declared.frame.Frame.{Frame}
use Rattle.lp_plain.specs.declared.frame.Place.{Place}
use Rattle.lp_plain.specs.declared.machine.Machine.{Machine}
use Rattle.lp_plain.specs.Stacks.{base_of}

-- within these bounds
pub data HasMarks (least most : ℕ) : List Frame → Option ℕ → Type 0 where
  no_mark : {fs : List Frame} {o : Option ℕ} → o ≡ None → HasMarks least most fs o
  a_mark : {fs : List Frame} {o : Option ℕ} (i : ℕ) (f : Frame) → o ≡ Some i → slice_get fs i ≡ Some f → least ≤ f.place.mark → f.place.mark ≤ most →
      HasMarks least most (take i fs) f.behind → HasMarks least most fs o

-- in a search
abbrev pub Marks : (least most : ℕ) → Machine → Option ℕ → Type 0
Marks l u m o = HasMarks l u m.frames.items o

-- the goals that are put in front of those from a frame on have marks within the bounds, where these have and the place has
abbrev pub PutsMarks : (old new : Machine) → Place → (behind front : Option ℕ) → Type 0
PutsMarks m n p o r = (l u : ℕ) → Marks l u m o → l ≤ p.mark → p.mark ≤ u → Marks l u n r

-- so do those that an alternative that came has left
abbrev pub PutsAside : (old new : Machine) → Place → (behind : Option ℕ) → Type 0
PutsAside m n p o = (c : Choice) → n.choices.items ≡ m.choices.items ++ c ∷ [] → (from : Option ℕ) → c.untried ≡ Untried.Goals from → (l u : ℕ) →
    Marks l u m o → l ≤ p.mark → p.mark ≤ u → HasMarks l u (take c.lengths.frames n.frames.items) from

-- so do those that a turn left, where all goals of the branch had them
abbrev pub SetsAside : (old new : Machine) → Type 0
SetsAside m n = (c : Choice) → n.choices.items ≡ m.choices.items ++ c ∷ [] → (from : Option ℕ) → c.untried ≡ Untried.Goals from → (l u : ℕ) → Marks l
    u m m.branch.goals → HasMarks l u (take c.lengths.frames n.frames.items) from

-- what alternatives with goals left are to do, where so many stand below the first of them, has marks up to that number
abbrev pub AreMarked : Machine → (least at : ℕ) → List Choice → Type 0
AreMarked m l k [] = Unit {0}
AreMarked m l k (c ∷ cs) = ((from : Option ℕ) → c.untried ≡ Untried.Goals from → HasMarks l k (take c.lengths.frames m.frames.items) from) × AreMarked m l (suc k) cs

-- a cut in a search keeps no fewer alternatives than are around it, and no more than there are
pub record IsMarked (m : Machine) : Type 0 where
  pub here : Marks (base_of m.denied) (length m.choices.items) m m.branch.goals
  pub others : AreMarked m (base_of m.denied) (base_of m.denied) (drop (base_of m.denied) m.choices.items)
