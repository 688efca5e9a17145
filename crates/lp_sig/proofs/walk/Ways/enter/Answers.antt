use Rattle.std.proofs.Common.{map, sym, subst, ◌++◌, ◌∷◌, [], arith, ap}
use Rattle.std.proofs.lemmas.Result.{on_ok_weaker}
use Rattle.lp_sig.specs.Walking.{Moves, waiting}
use Rattle.lp_sig.specs.declared.walk.Step.TheVariants.{Enter}
use Rattle.lp_sig.proofs.Circles.{seen_mark, new_mark}
use Rattle.lp_sig.proofs.Order.{known, entered, less_left}
use Rattle.lp_sig.proofs.walk.Ways.enter.Goals as goal

pub returns-then-not-mark-clause-moves : goal.returns-then-not-mark-clause-moves
returns-then-not-mark-clause-moves c =
    let ways = map (λ out. out.items) c.args.self.now.ways.items in
    let m = c.args.marks.now.items in
    let w = c.args.work.now.items in
    let s = c.args.steps.now.items in
    let x = seen_mark m c.mark.new.marks.items c.args.at c.if-not-mark.ensures.fresh c.mark.ensures.marked in
    subst (λ z. Moves ways m (w ++ Enter c.args.at ∷ []) s z w s) (sym x.1) (known ways m w s c.args.at x.0)

pub returns-then-not-mark-clause-falls : goal.returns-then-not-mark-clause-falls
returns-then-not-mark-clause-falls c =
    let ways = map (λ out. out.items) c.args.self.now.ways.items in
    let x = seen_mark c.args.marks.now.items c.mark.new.marks.items c.args.at c.if-not-mark.ensures.fresh c.mark.ensures.marked in
    let e = ap (λ z. waiting z ways) x.1 in
    omega (arith, e)

pub returns-clause-moves : goal.returns-clause-moves
returns-clause-moves c =
    let ways = map (λ out. out.items) c.args.self.now.ways.items in
    let x = new_mark c.args.marks.now.items c.mark.new.marks.items c.args.at c.if-not-mark.ensures.fresh c.mark.ensures.marked in
    on_ok_weaker c.push_named.result (λ e. entered ways c.args.marks.now.items c.mark.new.marks.items c.args.work.now.items c.push-2.new.self.items
    c.push_named.new.work.items c.args.steps.now.items c.push.new.self.items c.args.at x.0 x.1 c.in_ok-push.ensures.items
    c.in_ok-push-2.ensures.items e) c.push_named.ensures

pub returns-clause-falls : goal.returns-clause-falls
returns-clause-falls c =
    let ways = map (λ out. out.items) c.args.self.now.ways.items in
    let x = new_mark c.args.marks.now.items c.mark.new.marks.items c.args.at c.if-not-mark.ensures.fresh c.mark.ensures.marked in
    on_ok_weaker c.push_named.result (λ e. less_left ways c.args.marks.now.items c.mark.new.marks.items c.args.at c.args.work.now.items c.push-2.new.self.items c.push_named.new.work.items x.0 x.1 c.in_ok-push-2.ensures.items e) c.push_named.ensures
