use Rattle.std.proofs.Common.{◌≡◌, ◌++◌, [], ◌∷◌, refl, arith}
use Rattle.std.proofs.lemmas.Grind.{common_steps}
use Rattle.lp_syntax.specs.declared.held.Held.TheVariants.{Waits, Under, Inside, Item, Tail}
use Rattle.lp_syntax.proofs.Arena.{grows_on}
use Rattle.lp_syntax.proofs.Views.{popped, each_more}
use Rattle.lp_syntax.proofs.Closing.{waits_closed, closes_with, closes_bracket}
use Rattle.lp_syntax.proofs.close.close.Goals as goal

pub operated-requires-clause-left : goal.operated-requires-clause-left
operated-requires-clause-left c =
    let st : c.over.frames.items ≡ c.pop.new.self.items ++ Waits c.in-Some-Waits.p c.in-Some-Waits.left ∷ [] = grind (arith, common_steps) in
    (popped _ _ _ _ st c.over.invariant.below).1

pub bound-requires-clause-fun : goal.bound-requires-clause-fun
bound-requires-clause-fun c =
    let st : c.over.frames.items ≡ c.pop.new.self.items ++ Under c.in-Some-Under.spot c.in-Some-Under.note c.in-Some-Under.fun ∷ [] = grind (arith, common_steps) in
    (popped _ _ _ _ st c.over.invariant.below).1

pub at_bracket-requires-clause-frames : goal.at_bracket-requires-clause-frames
at_bracket-requires-clause-frames c =
    let st : c.over.frames.items ≡ c.pop.new.self.items ++ Inside c.in-Some-Inside.fun ∷ [] = grind (arith, common_steps) in
    (popped _ _ _ _ st c.over.invariant.below).0

pub at_bracket-requires-clause-fun : goal.at_bracket-requires-clause-fun
at_bracket-requires-clause-fun c =
    let st : c.over.frames.items ≡ c.pop.new.self.items ++ Inside c.in-Some-Inside.fun ∷ [] = grind (arith, common_steps) in
    (popped _ _ _ _ st c.over.invariant.below).1

pub at_list-requires-clause-frames : goal.at_list-requires-clause-frames
at_list-requires-clause-frames c =
    let st : c.over.frames.items ≡ c.pop.new.self.items ++ Item c.in-Some-Item.spot c.in-Some-Item.fun c.in-Some-Item.done ∷ [] = grind (arith, common_steps) in
    (popped _ _ _ _ st c.over.invariant.below).0

pub at_list-requires-clause-fun : goal.at_list-requires-clause-fun
at_list-requires-clause-fun c =
    let st : c.over.frames.items ≡ c.pop.new.self.items ++ Item c.in-Some-Item.spot c.in-Some-Item.fun c.in-Some-Item.done ∷ [] = grind (arith, common_steps) in
    (popped _ _ _ _ st c.over.invariant.below).1.0

pub at_list-requires-clause-done : goal.at_list-requires-clause-done
at_list-requires-clause-done c =
    let st : c.over.frames.items ≡ c.pop.new.self.items ++ Item c.in-Some-Item.spot c.in-Some-Item.fun c.in-Some-Item.done ∷ [] = grind (arith, common_steps) in
    (popped _ _ _ _ st c.over.invariant.below).1.1

pub at_tail-requires-clause-frames : goal.at_tail-requires-clause-frames
at_tail-requires-clause-frames c =
    let st : c.over.frames.items ≡ c.pop.new.self.items ++ Tail c.in-Some-Tail.fun c.in-Some-Tail.done ∷ [] = grind (arith, common_steps) in
    (popped _ _ _ _ st c.over.invariant.below).0

pub at_tail-requires-clause-fun : goal.at_tail-requires-clause-fun
at_tail-requires-clause-fun c =
    let st : c.over.frames.items ≡ c.pop.new.self.items ++ Tail c.in-Some-Tail.fun c.in-Some-Tail.done ∷ [] = grind (arith, common_steps) in
    (popped _ _ _ _ st c.over.invariant.below).1.0

pub at_tail-requires-clause-done : goal.at_tail-requires-clause-done
at_tail-requires-clause-done c =
    let st : c.over.frames.items ≡ c.pop.new.self.items ++ Tail c.in-Some-Tail.fun c.in-Some-Tail.done ∷ [] = grind (arith, common_steps) in
    (popped _ _ _ _ st c.over.invariant.below).1.1

pub over-preserved-in-Some-Waits : goal.over-preserved-in-Some-Waits
over-preserved-in-Some-Waits c =
    let st : c.over.frames.items ≡ c.pop.new.self.items ++ Waits c.in-Some-Waits.p c.in-Some-Waits.left ∷ [] = grind (arith, common_steps) in
    let e = c.in_ok-x-in-Some-Waits.ensures in
    let b = popped _ _ _ _ st c.over.invariant.below in
    record {
      grows = grows_on _ _ _ c.over.invariant.grows e.grows;
      x = e.within;
      below = each_more _ _ _ e.grows.longer b.0;
      same = waits_closed _ _ _ _ (Waits c.in-Some-Waits.p c.in-Some-Waits.left) c.over.x c.in_ok-x-in-Some-Waits.x c.args.c _ _ st e.grows b.0 e.tree refl c.over.invariant.same;
    }

pub over-preserved : goal.over-preserved
over-preserved c =
    let st : c.over.frames.items ≡ c.pop.new.self.items ++ Under c.in-Some-Under.spot c.in-Some-Under.note c.in-Some-Under.fun ∷ [] = grind (arith, common_steps) in
    let e = c.in_ok-x-in-Some-Under.ensures in
    let b = popped _ _ _ _ st c.over.invariant.below in
    record {
      grows = grows_on _ _ _ c.over.invariant.grows e.grows;
      x = e.within;
      below = each_more _ _ _ e.grows.longer b.0;
      same = waits_closed _ _ _ _ (Under c.in-Some-Under.spot c.in-Some-Under.note c.in-Some-Under.fun) c.over.x c.in_ok-x-in-Some-Under.x c.args.c _ _ st e.grows b.0 e.tree refl c.over.invariant.same;
    }

pub returns-in-Some-Item : goal.returns-in-Some-Item
returns-in-Some-Item c =
    let st : c.over.frames.items ≡ c.pop.new.self.items ++ Item c.in-Some-Item.spot c.in-Some-Item.fun c.in-Some-Item.done ∷ [] = grind (arith, common_steps) in
    closes_with _ _ _ _ _ _ (Item c.in-Some-Item.spot c.in-Some-Item.fun c.in-Some-Item.done) c.over.x c.args.c _ c.over.invariant.grows st c.over.invariant.same c.at_list.result c.at_list.ensures

pub returns-in-Some-Tail : goal.returns-in-Some-Tail
returns-in-Some-Tail c =
    let st : c.over.frames.items ≡ c.pop.new.self.items ++ Tail c.in-Some-Tail.fun c.in-Some-Tail.done ∷ [] = grind (arith, common_steps) in
    closes_with _ _ _ _ _ _ (Tail c.in-Some-Tail.fun c.in-Some-Tail.done) c.over.x c.args.c _ c.over.invariant.grows st c.over.invariant.same c.at_tail.result c.at_tail.ensures

pub returns-in-Some-Inside : goal.returns-in-Some-Inside
returns-in-Some-Inside c =
    let st : c.over.frames.items ≡ c.pop.new.self.items ++ Inside c.in-Some-Inside.fun ∷ [] = grind (arith, common_steps) in
    closes_bracket _ _ _ _ (Inside c.in-Some-Inside.fun) c.over.x c.args.c _ _ c.over.invariant.grows st c.over.invariant.same c.at_bracket.ensures
