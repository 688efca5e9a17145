use Rattle.std.proofs.Common.{◌≡◌, ◌++◌, [], ◌∷◌, refl, ap, is_ok, sym, ◌∙◌, arith}
use Rattle.std.proofs.ResultArms.{chosen}
use Rattle.std.proofs.lemmas.Grind.{common_steps}
use Rattle.lp_syntax.specs.declared.held.Held.TheVariants.{Waits, Under, Inside, Item, Tail}
use Rattle.lp_syntax.proofs.Arena.{grows_on}
use Rattle.lp_syntax.proofs.Views.{none_takes, ends_takes, waits_takes, ends_item, reduced, stopped, popped, each_more}
use Rattle.lp_syntax.proofs.attach.attach.Goals as goal

pub operated-requires-clause-left : goal.operated-requires-clause-left
operated-requires-clause-left c =
    let st : c.over.frames.items ≡ c.pop.new.self.items ++ Waits c.in-Some-Waits.p c.in-Some-Waits.left ∷ [] = grind (arith, common_steps) in
    (popped _ _ _ _ st c.over.invariant.below).1

pub returns-then-not-fits_left : goal.returns-then-not-fits_left
returns-then-not-fits_left c =
    let st : c.over.frames.items ≡ c.pop.new.self.items ++ Waits c.in-Some-Waits.p c.in-Some-Waits.left ∷ [] = grind (arith, common_steps) in
    stopped _ _ _ _ c.in-Some-Waits.p c.in-Some-Waits.left c.over.x c.args.o _ c.over.invariant.grows st (sym c.fits_right.ensures ∙ c.if-fits_right.false) (sym c.fits_left.ensures ∙ c.if-not-fits_left.true) c.over.invariant.same

pub over-preserved : goal.over-preserved
over-preserved c =
    let st : c.over.frames.items ≡ c.pop.new.self.items ++ Waits c.in-Some-Waits.p c.in-Some-Waits.left ∷ [] = grind (arith, common_steps) in
    let e = c.in_ok-x-in-Some-Waits.ensures in
    let b = popped _ _ _ _ st c.over.invariant.below in
    record {
      grows = grows_on _ _ _ c.over.invariant.grows e.grows;
      x = e.within;
      below = each_more _ _ _ e.grows.longer b.0;
      same = reduced _ _ _ _ c.in-Some-Waits.p c.in-Some-Waits.left c.over.x c.in_ok-x-in-Some-Waits.x c.args.o _ st e.grows b.0 (sym c.fits_right.ensures ∙ c.if-fits_right.false) (sym c.fits_left.ensures ∙ c.if-not-fits_left.false) e.tree c.over.invariant.same;
    }

pub returns-then-fits_right : goal.returns-then-fits_right
returns-then-fits_right c =
    let st : c.over.frames.items ≡ c.pop.new.self.items ++ Waits c.in-Some-Waits.p c.in-Some-Waits.left ∷ [] = grind (arith, common_steps) in
    ends_takes _ _ _ _ _ _ _ (Waits c.in-Some-Waits.p c.in-Some-Waits.left) c.over.x c.args.o _ c.over.invariant.grows st
    (chosen _ _ _ _ c.push.ensures.items (ap is_ok c.in_ok-push-in-Some-Waits.was))
    (waits_takes _ c.in-Some-Waits.p _ _ c.args.o (sym c.fits_right.ensures ∙ c.if-fits_right.true)) c.over.invariant.same
    c.takes-then-fits_right.result c.takes-then-fits_right.ensures

pub at_item-requires-clause-frames : goal.at_item-requires-clause-frames
at_item-requires-clause-frames c =
    let st : c.over.frames.items ≡ c.pop.new.self.items ++ Item c.in-Some-Item.spot c.in-Some-Item.fun c.in-Some-Item.done ∷ [] = grind (arith, common_steps) in
    (popped _ _ _ _ st c.over.invariant.below).0

pub at_item-requires-clause-fun : goal.at_item-requires-clause-fun
at_item-requires-clause-fun c =
    let st : c.over.frames.items ≡ c.pop.new.self.items ++ Item c.in-Some-Item.spot c.in-Some-Item.fun c.in-Some-Item.done ∷ [] = grind (arith, common_steps) in
    (popped _ _ _ _ st c.over.invariant.below).1.0

pub at_item-requires-clause-done : goal.at_item-requires-clause-done
at_item-requires-clause-done c =
    let st : c.over.frames.items ≡ c.pop.new.self.items ++ Item c.in-Some-Item.spot c.in-Some-Item.fun c.in-Some-Item.done ∷ [] = grind (arith, common_steps) in
    (popped _ _ _ _ st c.over.invariant.below).1.1

pub returns-in-Some-Item : goal.returns-in-Some-Item
returns-in-Some-Item c =
    let st : c.over.frames.items ≡ c.pop.new.self.items ++ Item c.in-Some-Item.spot c.in-Some-Item.fun c.in-Some-Item.done ∷ [] = grind (arith, common_steps) in
    ends_item _ _ _ _ _ _ c.in-Some-Item.spot c.in-Some-Item.fun c.in-Some-Item.done c.over.x c.args.o _ c.over.invariant.grows st c.over.invariant.same c.at_item.result c.at_item.ensures

pub returns-in-Some-Under : goal.returns-in-Some-Under
returns-in-Some-Under c =
    let st : c.over.frames.items ≡ c.pop.new.self.items ++ Under c.in-Some-Under.spot c.in-Some-Under.note c.in-Some-Under.fun ∷ [] = grind (arith, common_steps) in
    ends_takes _ _ _ _ _ _ _ (Under c.in-Some-Under.spot c.in-Some-Under.note c.in-Some-Under.fun) c.over.x c.args.o _ c.over.invariant.grows st
    (chosen _ _ _ _ c.push-in-Some-Under.ensures.items (ap is_ok c.in_ok-push-in-Some-Under.was)) refl c.over.invariant.same
    c.takes-in-Some-Under.result c.takes-in-Some-Under.ensures

pub returns-in-Some-Inside : goal.returns-in-Some-Inside
returns-in-Some-Inside c =
    let st : c.over.frames.items ≡ c.pop.new.self.items ++ Inside c.in-Some-Inside.fun ∷ [] = grind (arith, common_steps) in
    ends_takes _ _ _ _ _ _ _ (Inside c.in-Some-Inside.fun) c.over.x c.args.o _ c.over.invariant.grows st (chosen _ _ _ _ c.push-in-Some-Inside.ensures.items (ap is_ok c.in_ok-push-in-Some-Inside.was)) refl c.over.invariant.same c.takes-in-Some-Inside.result c.takes-in-Some-Inside.ensures

pub returns-in-Some-Tail : goal.returns-in-Some-Tail
returns-in-Some-Tail c =
    let st : c.over.frames.items ≡ c.pop.new.self.items ++ Tail c.in-Some-Tail.fun c.in-Some-Tail.done ∷ [] = grind (arith, common_steps) in
    ends_takes _ _ _ _ _ _ _ (Tail c.in-Some-Tail.fun c.in-Some-Tail.done) c.over.x c.args.o _ c.over.invariant.grows st (chosen _ _ _ _ c.push-in-Some-Tail.ensures.items (ap is_ok c.in_ok-push-in-Some-Tail.was)) refl c.over.invariant.same c.takes-in-Some-Tail.result c.takes-in-Some-Tail.ensures

pub returns-in-None : goal.returns-in-None
returns-in-None c =
    let st : c.over.frames.items ≡ [] = grind (arith, common_steps) in
    let st' : c.pop.new.self.items ≡ [] = grind (arith, common_steps) in
    none_takes _ _ _ _ _ _ c.over.x c.args.o _ c.over.invariant.grows st st' c.over.invariant.same c.takes.result c.takes.ensures
