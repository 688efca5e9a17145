use Rattle.std.proofs.Common.{refl, ap, map}
use Rattle.std.specs.HashMap.{values}
use Rattle.lp_calculus.specs.Term.{apply}
use Rattle.lp_term.specs.Nodes.{tree}
use Rattle.lp_term.specs.Frame.{in_order}
use Rattle.lp_term.proofs.Absences.{begun_with, absent_known, passed, passed_again, settles, still_settled, goes_on, fewer_left, fewer_parts}
use Rattle.lp_term.proofs.absent.is_absent.Goals as goal

pub places-init : goal.places-init
places-init c =
    begun_with c.args.bank.now c.args.head c.args.args.now (values c.new-marks.result) c.new-left.result.items c.push.new.self.items c.push_all.new.left.items c.new-left.ensures.items c.in_ok-push.ensures.items c.in_ok-push_all.ensures
    (ap (map (λ e. e.1)) c.new-marks.ensures.empty) c.term_count-count.ensures.few c.requires.head c.requires.args

pub places-smaller-then-is_known_below : goal.places-smaller-then-is_known_below
places-smaller-then-is_known_below c = fewer_left c.args.bank.now c.places.left.items c.pop.new.self.items c.in-Some.place c.in-Some.ensures.items

pub places-preserved-then-is_known_below : goal.places-preserved-then-is_known_below
places-preserved-then-is_known_below c =
    passed c.args.bank.now (apply (tree c.args.bank.now c.args.head.0) (in_order c.args.bank.now c.args.args.now)) (values c.places.marks) c.places.left.items c.pop.new.self.items c.in-Some.place c.in-Some.ensures.items c.places.invariant
    (absent_known c.args.bank.now c.in-Some.place (c.if-is_known_below.ensures refl))

pub places-smaller-then-is_marked : goal.places-smaller-then-is_marked
places-smaller-then-is_marked c = fewer_left c.args.bank.now c.places.left.items c.pop.new.self.items c.in-Some.place c.in-Some.ensures.items

pub places-preserved-then-is_marked : goal.places-preserved-then-is_marked
places-preserved-then-is_marked c =
    passed_again c.args.bank.now (apply (tree c.args.bank.now c.args.head.0) (in_order c.args.bank.now c.args.args.now)) (values c.places.marks) c.places.left.items c.pop.new.self.items c.in-Some.place c.in-Some.ensures.items c.places.invariant
    (c.if-is_marked.ensures refl)

pub places-smaller : goal.places-smaller
places-smaller c =
    let k = c.in_ok-look_into.ensures.parts c.if-not-branch.false in
    fewer_parts c.args.bank.now c.places.left.items c.pop.new.self.items c.look_into.new.left.items k.0 c.in-Some.place c.in-Some.ensures.items k.1 k.2.fewer

pub places-preserved : goal.places-preserved
places-preserved c =
    let k = c.in_ok-look_into.ensures.parts c.if-not-branch.false in
    let t = apply (tree c.args.bank.now c.args.head.0) (in_order c.args.bank.now c.args.args.now) in
    let m = values c.places.marks in
    goes_on c.args.bank.now t m c.places.left.items c.pop.new.self.items c.in-Some.place c.in-Some.ensures.items c.places.invariant c.look_into.new.left.items k.0 k.1 k.2 (values c.mark.new.marks)
    (c.in_ok-mark.ensures c.args.bank.now c.look_into.new.left.items
    (still_settled c.args.bank.now t m c.places.left.items c.pop.new.self.items c.in-Some.place c.in-Some.ensures.items c.places.invariant c.look_into.new.left.items k.0 k.1 k.2)
    (settles c.args.bank.now t m c.places.left.items c.pop.new.self.items c.in-Some.place c.in-Some.ensures.items c.places.invariant c.look_into.new.left.items k.0 k.1 k.2))
