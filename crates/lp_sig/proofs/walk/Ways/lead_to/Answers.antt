use Rattle.std.proofs.Common.{◌≡◌, map, length, arith, ◌∙◌, ap, replicate, false}
use Rattle.std.proofs.lemmas.List.{length-map, nil_from_length}
use Rattle.lp_sig.proofs.Circles.{at_start, found, skipped, opened, at_end, seen_mark, new_mark}
use Rattle.lp_sig.proofs.Order.{one_off, fewer_left}
use Rattle.lp_sig.proofs.walk.Ways.lead_to.Goals as goal

pub places-init : goal.places-init
places-init c =
    let ways = map (λ out. out.items) c.args.self.now.ways.items in
    let l = length-map c.args.self.now.ways.items (λ out. out.items) in
    let n : c.len.result ≡ length ways = omega (arith, c.len.ensures, c.args.self.now.ways.ok, l) in
    at_start ways c.args.words.now c.args.to c.in_ok-marks.marks.items c.in_ok-work.work.items (c.in_ok-marks.ensures ∙ ap (λ n. replicate n false) n) c.in_ok-work.ensures.items

pub returns-then-way-to-clause-found : goal.returns-then-way-to-clause-found
returns-then-way-to-clause-found c = λ e.
    let ways = map (λ out. out.items) c.args.self.now.ways.items in
    found ways c.args.words.now c.args.to c.places.marks.items c.places.work.items c.pop.new.self.items c.in-Some.way c.in-Some.ensures.items c.places.invariant c.if-way-to.true

pub places-preserved-then-not-mark : goal.places-preserved-then-not-mark
places-preserved-then-not-mark c =
    let ways = map (λ out. out.items) c.args.self.now.ways.items in
    let x = seen_mark c.places.marks.items c.mark.new.marks.items c.in-Some.way.1 c.if-not-mark.ensures.fresh c.mark.ensures.marked in
    skipped ways c.args.words.now c.args.to c.places.marks.items c.places.work.items c.pop.new.self.items c.in-Some.way c.mark.new.marks.items x.1 c.in-Some.ensures.items c.places.invariant c.if-way-to.false x.0

pub places-smaller-then-not-mark : goal.places-smaller-then-not-mark
places-smaller-then-not-mark c =
    let ways = map (λ out. out.items) c.args.self.now.ways.items in
    let x = seen_mark c.places.marks.items c.mark.new.marks.items c.in-Some.way.1 c.if-not-mark.ensures.fresh c.mark.ensures.marked in
    one_off ways c.places.marks.items c.mark.new.marks.items c.places.work.items c.pop.new.self.items c.in-Some.way c.in-Some.ensures.items x.1

pub places-preserved : goal.places-preserved
places-preserved c =
    let ways = map (λ out. out.items) c.args.self.now.ways.items in
    let x = new_mark c.places.marks.items c.mark.new.marks.items c.in-Some.way.1 c.if-not-mark.ensures.fresh c.mark.ensures.marked in
    opened ways c.args.words.now c.args.to c.places.marks.items c.places.work.items c.pop.new.self.items c.in-Some.way c.mark.new.marks.items c.push_words.new.work.items c.in-Some.ensures.items c.places.invariant c.if-way-to.false x.1 c.in_ok-push_words.ensures

pub places-smaller : goal.places-smaller
places-smaller c =
    let ways = map (λ out. out.items) c.args.self.now.ways.items in
    let x = new_mark c.places.marks.items c.mark.new.marks.items c.in-Some.way.1 c.if-not-mark.ensures.fresh c.mark.ensures.marked in
    fewer_left ways c.places.marks.items c.mark.new.marks.items c.in-Some.way.1 c.places.work.items c.pop.new.self.items c.push_words.new.work.items c.in-Some.way c.in-Some.ensures.items x.0 x.1 c.in_ok-push_words.ensures

pub returns-clause-none : goal.returns-clause-none
returns-clause-none c = λ e.
    let ways = map (λ out. out.items) c.args.self.now.ways.items in
    let l : length c.places.work.items ≡ 0 = omega (arith, c.in_default.ensures.cases.0, c.places.work.ok) in
    at_end ways c.args.words.now c.args.to c.places.marks.items c.places.work.items (nil_from_length c.places.work.items l) c.places.invariant
