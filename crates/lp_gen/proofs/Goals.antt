-- What a goal weighs by its top.
use Rattle.std.proofs.Common.{◌≡◌, ℕ, ◌+◌, map, sym, ap, ◌∙◌, Vec, Global}
use Rattle.lp_term.specs.declared.node.TypeId.{TypeId}
use Rattle.lp_model.specs.declared.clause.Goal as code
use Rattle.lp_model.specs.declared.clause.Goal.{Goal}
use Rattle.lp_model.specs.declared.clause.Goal.TheOpen.{Goal-F}
use Rattle.lp_model.specs.declared.clause.Goal.TheVariants.{rolls-Either, rolls-Some, rolls-All, rolls-Assume, rolls-Not}
use Rattle.lp_model.specs.declared.clause.Goal.TheFolds.{fold-roll-Goal}
use Rattle.lp_model.specs.declared.clause.Clause.{Clause}
use Rattle.lp_gen.specs.inner.Sizes.{goals_weigh, goal_weighs_at, no_weight, goal_weighs}

pub either_weighs : (l r : Vec Goal Global) → goal_weighs (code.Either l r) ≡ 2 + goals_weigh (map goal_weighs l.items) + goals_weigh (map goal_weighs r.items)
either_weighs l r = ap goal_weighs (sym (rolls-Either l r)) ∙ fold-roll-Goal ℕ ℕ goal_weighs_at no_weight (Goal-F.Either l r)

pub some_weighs : (T : TypeId) (l : Vec Goal Global) → goal_weighs (code.Some T l) ≡ goals_weigh (map goal_weighs l.items)
some_weighs T l = ap goal_weighs (sym (rolls-Some T l)) ∙ fold-roll-Goal ℕ ℕ goal_weighs_at no_weight (Goal-F.Some T l)

pub all_weighs : (T : TypeId) (l : Vec Goal Global) → goal_weighs (code.All T l) ≡ 1 + goals_weigh (map goal_weighs l.items)
all_weighs T l = ap goal_weighs (sym (rolls-All T l)) ∙ fold-roll-Goal ℕ ℕ goal_weighs_at no_weight (Goal-F.All T l)

pub assume_weighs : (cs : Vec Clause Global) (l : Vec Goal Global) → goal_weighs (code.Assume cs l) ≡ 1 + goals_weigh (map goal_weighs l.items)
assume_weighs cs l = ap goal_weighs (sym (rolls-Assume cs l)) ∙ fold-roll-Goal ℕ ℕ goal_weighs_at no_weight (Goal-F.Assume cs l)

pub not_weighs : (l : Vec Goal Global) → goal_weighs (code.Not l) ≡ 1 + goals_weigh (map goal_weighs l.items)
not_weighs l = ap goal_weighs (sym (rolls-Not l)) ∙ fold-roll-Goal ℕ ℕ goal_weighs_at no_weight (Goal-F.Not l)
