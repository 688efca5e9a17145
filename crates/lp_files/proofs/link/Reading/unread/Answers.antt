use Rattle.std.proofs.Common.{◌∙◌, arith, ap}
use Rattle.lp_places.specs.Places.{place_of, first_place}
use Rattle.lp_link.specs.Uses.{names_of}
use Rattle.lp_files.proofs.Ordering.{all_named, member_there, no_object, no_place_is, one_unread, place_is, use_skipped, uses_begin}
use Rattle.lp_files.proofs.link.Reading.unread.Goals as goal

pub loop-at-init : goal.loop-at-init
loop-at-init c = uses_begin c.args.self.now.objects.items c.args.user c.args.place

pub loop-at-preserved : goal.loop-at-preserved
loop-at-preserved c =
    let v = c.index-name.result.now in
    let os = c.args.self.now.objects.items in
    let o = c.in-Some.object.now in
    let (j, found) = place_is c.of.result (place_of c.args.self.now.names c.as_slice.result.now) (first_place v.items (names_of os)) c.if-is_none.ensures c.of.ensures
    (ap (place_of c.args.self.now.names) c.as_slice.ensures.value ∙ c.requires.found v.items) in
    use_skipped os c.args.user c.args.place c.loop-at.at j o v
    (member_there os c.deref.result.now c.args.user o c.deref.ensures.value c.in-Some.ensures.lookup.3.0 c.in-Some.ensures.lookup.1)
    (omega (arith, c.loop-at-test.true, c.len-at-end.ensures, o.uses.ok)) c.index-name.ensures found c.loop-at.invariant

pub returns-in_default : goal.returns-in_default
returns-in_default c = no_object c.args.self.now.objects.items c.deref.result.now c.args.user c.args.place c.deref.ensures.value c.in_default.ensures.lookup.0

pub returns : goal.returns
returns c =
    let o = c.in-Some.object.now in
    all_named c.args.self.now.objects.items c.args.user c.args.place c.loop-at.at o
    (member_there c.args.self.now.objects.items c.deref.result.now c.args.user o c.deref.ensures.value c.in-Some.ensures.lookup.3.0 c.in-Some.ensures.lookup.1)
    (omega (arith, c.loop-at-test.false, c.len-at-end.ensures, o.uses.ok)) c.loop-at.invariant

pub returns-then-is_none : goal.returns-then-is_none
returns-then-is_none c =
    let v = c.index-name.result.now in
    let os = c.args.self.now.objects.items in
    let o = c.in-Some.object.now in
    one_unread os c.args.user c.args.place c.loop-at.at o v c.in_ok-name.name
    (member_there os c.deref.result.now c.args.user o c.deref.ensures.value c.in-Some.ensures.lookup.3.0 c.in-Some.ensures.lookup.1)
    (omega (arith, c.loop-at-test.true, c.len-at-end.ensures, o.uses.ok)) c.index-name.ensures (c.in_ok-name.ensures.items ∙ c.as_slice-then-is_none.ensures.value)
    (no_place_is c.of.result (place_of c.args.self.now.names c.as_slice.result.now) (first_place v.items (names_of os)) c.if-is_none.ensures c.of.ensures
    (ap (place_of c.args.self.now.names) c.as_slice.ensures.value ∙ c.requires.found v.items))
    c.loop-at.invariant
