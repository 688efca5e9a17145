use Rattle.std.proofs.Common.{◌≡◌, ◌++◌, [], ◌∷◌, refl, arith}
use Rattle.std.proofs.lemmas.Grind.{common_steps}
use Rattle.lp_syntax.specs.declared.held.Held.TheVariants.{Waits, Under, Inside, Item, Tail}
use Rattle.lp_syntax.proofs.Arena.{grows_on}
use Rattle.lp_syntax.proofs.Views.{popped, each_more}
use Rattle.lp_syntax.proofs.Finishing.{waits_finished, stays_open}
use Rattle.lp_syntax.proofs.finish.fold.Goals as goal

pub operated-requires-clause-left : goal.operated-requires-clause-left
operated-requires-clause-left c =
    let st : c.over.frames.items ≡ c.pop.new.self.items ++ Waits c.in-Some-Waits.p c.in-Some-Waits.left ∷ [] = grind (arith, common_steps) in
    (popped _ _ _ _ st c.over.invariant.below).1

pub bound-requires-clause-fun : goal.bound-requires-clause-fun
bound-requires-clause-fun c =
    let st : c.over.frames.items ≡ c.pop.new.self.items ++ Under c.in-Some-Under.spot c.in-Some-Under.note c.in-Some-Under.fun ∷ [] = grind (arith, common_steps) in
    (popped _ _ _ _ st c.over.invariant.below).1

pub over-preserved-in-Some-Waits : goal.over-preserved-in-Some-Waits
over-preserved-in-Some-Waits c =
    let st : c.over.frames.items ≡ c.pop.new.self.items ++ Waits c.in-Some-Waits.p c.in-Some-Waits.left ∷ [] = grind (arith, common_steps) in
    let e = c.in_ok-x-in-Some-Waits.ensures in
    let b = popped _ _ _ _ st c.over.invariant.below in
    record {
      grows = grows_on _ _ _ c.over.invariant.grows e.grows;
      x = e.within;
      below = each_more _ _ _ e.grows.longer b.0;
      same = waits_finished _ _ _ _ (Waits c.in-Some-Waits.p c.in-Some-Waits.left) c.over.x c.in_ok-x-in-Some-Waits.x _ _ st e.grows b.0 e.tree refl c.over.invariant.same;
    }

pub over-preserved : goal.over-preserved
over-preserved c =
    let st : c.over.frames.items ≡ c.pop.new.self.items ++ Under c.in-Some-Under.spot c.in-Some-Under.note c.in-Some-Under.fun ∷ [] = grind (arith, common_steps) in
    let e = c.in_ok-x-in-Some-Under.ensures in
    let b = popped _ _ _ _ st c.over.invariant.below in
    record {
      grows = grows_on _ _ _ c.over.invariant.grows e.grows;
      x = e.within;
      below = each_more _ _ _ e.grows.longer b.0;
      same = waits_finished _ _ _ _ (Under c.in-Some-Under.spot c.in-Some-Under.note c.in-Some-Under.fun) c.over.x c.in_ok-x-in-Some-Under.x _ _ st e.grows b.0 e.tree refl c.over.invariant.same;
    }

pub returns-in-Some-Inside : goal.returns-in-Some-Inside
returns-in-Some-Inside c =
    let st : c.over.frames.items ≡ c.pop.new.self.items ++ Inside c.in-Some-Inside.field-0-0 ∷ [] = grind (arith, common_steps) in
    stays_open _ _ _ _ (Inside c.in-Some-Inside.field-0-0) c.over.x _ c.over.invariant.grows st refl c.over.invariant.same

pub returns-in-Some-Item : goal.returns-in-Some-Item
returns-in-Some-Item c =
    let st : c.over.frames.items ≡ c.pop.new.self.items ++ Item c.in-Some-Item.field-0-0 c.in-Some-Item.field-0-1 c.in-Some-Item.field-0-2 ∷ [] = grind (arith, common_steps) in
    stays_open _ _ _ _ (Item c.in-Some-Item.field-0-0 c.in-Some-Item.field-0-1 c.in-Some-Item.field-0-2) c.over.x _ c.over.invariant.grows st refl c.over.invariant.same

pub returns-in-Some-Tail : goal.returns-in-Some-Tail
returns-in-Some-Tail c =
    let st : c.over.frames.items ≡ c.pop.new.self.items ++ Tail c.in-Some-Tail.field-0-0 c.in-Some-Tail.field-0-1 ∷ [] = grind (arith, common_steps) in
    stays_open _ _ _ _ (Tail c.in-Some-Tail.field-0-0 c.in-Some-Tail.field-0-1) c.over.x _ c.over.invariant.grows st refl c.over.invariant.same
