-- What the code tells by a constant, the number of its types, and its arguments.
use Rattle.std.specs.Prelude.{ℕ, nat_eq, if◌then◌else◌, List, [], ◌∷◌, Option, Some, None}
use Rattle.lp_base.specs.declared.compare.Compare.TheVariants.{Less, Greater, AtMost, AtLeast}
use Rattle.lp_standard.specs.declared.constant.Constant.{Constant}
use Rattle.lp_standard.specs.declared.constant.Constant.TheVariants as fixed
use Rattle.lp_store.specs.declared.cell.CellId.{CellId}
use Rattle.lp_goal.specs.declared.kind.GoalKind.{GoalKind}
use Rattle.lp_goal.specs.declared.kind.GoalKind.TheVariants as goal

abbrev pub alone_by : Constant → Option GoalKind
alone_by fixed.True = Some goal.True
alone_by _ = None

abbrev pub quantified_by : Constant → CellId → Option GoalKind
quantified_by fixed.ForAll f = Some (goal.All f)
quantified_by fixed.Exists f = Some (goal.Some f)
quantified_by _ f = None

abbrev pub related_by : Constant → (left right : CellId) → Option GoalKind
related_by fixed.Equal l r = Some (goal.Equal l r)
related_by fixed.Is l r = Some (goal.Is l r)
related_by fixed.Less l r = Some (goal.Order Less l r)
related_by fixed.Greater l r = Some (goal.Order Greater l r)
related_by fixed.AtMost l r = Some (goal.Order AtMost l r)
related_by fixed.AtLeast l r = Some (goal.Order AtLeast l r)
related_by _ l r = None

abbrev pub joined_by : Constant → (left right : CellId) → Option GoalKind
joined_by fixed.And l r = Some (goal.And l r)
joined_by fixed.Or l r = Some (goal.Or l r)
joined_by k l r = related_by k l r

abbrev pub kind_by : Constant → (types : ℕ) → List CellId → Option GoalKind
kind_by k n [] = alone_by k
kind_by k n (f ∷ []) = if nat_eq n 1 then quantified_by k f else None
kind_by k n (l ∷ r ∷ []) = if nat_eq n 0 then joined_by k l r else related_by k l r
kind_by k n (l ∷ r ∷ x ∷ more) = None

abbrev pub kind_numbered : Option Constant → (types : ℕ) → List CellId → Option GoalKind
kind_numbered None n ids = None
kind_numbered (Some k) n ids = kind_by k n ids
