-- A heap as contracts see it, and that it can go back to each of its choice points.
use Rattle.std.specs.Prelude.{◌≡◌, ℕ, List, [], ◌∷◌, ◌++◌, take, reverse}
use Rattle.lp_store.specs.declared.cell.Mark.{Mark}
use Rattle.lp_store.specs.Contents.{Contents, as_at}
use Rattle.lp_store.specs.Change.{IsMark, IsNoLater}
use Rattle.lp_choice.specs.declared.point.ChoicePoint.{ChoicePoint}
use Rattle.lp_unify.specs.declared.delayed.Waiting.{Waiting}
use Rattle.lp_choice.specs.declared.point.Untried.{Untried}
use Rattle.lp_impl.specs.Chains as assumed
use Rattle.lp_impl.specs.Points as points

pub record Held : Type 0 where
  pub store : Contents
  pub choices : List ChoicePoint
  pub delayed : List Waiting
  pub assumptions : assumed.Held

-- the marks of these choice points were made no later than this one
abbrev pub AreNoLater : Mark → List ChoicePoint → Type 0
AreNoLater m [] = Unit {0}
AreNoLater m (p ∷ ps) = IsNoLater p.store m × AreNoLater m ps

-- the store can go back to the marks of the choice points, of which the newest is the first here
abbrev pub AreMarksBack : Contents → List ChoicePoint → Type 0
AreMarksBack s [] = Unit {0}
AreMarksBack s (p ∷ ps) = IsMark p.store s × AreNoLater p.store ps × AreMarksBack s ps

-- and the oldest here
abbrev pub AreMarks : Contents → List ChoicePoint → Type 0
AreMarks s ps = AreMarksBack s (reverse ps)

-- the newest choice point is taken off, and the store, the pairs that wait and the assumptions are as they were when it was made
pub record IsGoneBack (old new : Held) (p : ChoicePoint) : Type 0 where
  pub choices : old.choices ≡ new.choices ++ p ∷ []
  pub store : new.store ≡ as_at p.store old.store
  pub delayed : new.delayed ≡ take p.delayed old.delayed
  pub assumptions : points.IsPoint p.assumed old.assumptions → new.assumptions ≡ points.as_at p.assumed old.assumptions

-- a choice point that keeps all as it is
pub record IsKeptAs (old new : Held) (level goals : ℕ) (untried : Untried) (p : ChoicePoint) : Type 0 where
  pub choices : new.choices ≡ old.choices ++ p ∷ []
  pub store : as_at p.store new.store ≡ old.store
  pub delayed : take p.delayed new.delayed ≡ old.delayed
  pub assumptions : points.as_at p.assumed new.assumptions ≡ old.assumptions
  pub is_point : points.IsPoint p.assumed new.assumptions
  pub same_level : p.level ≡ level
  pub same_goals : p.goals ≡ goals
  pub same_untried : p.untried ≡ untried
