use Rattle.std.proofs.Common.{rules}
use Rattle.std.proofs.lemmas.Slice.Zip.{zip_turn, zip_end}
use Rattle.lp_pattern.specs.Reading.{paired}
use Rattle.lp_pattern.proofs.PairedLists.{paired_more, paired_whole}
use Rattle.lp_plain.proofs.attempt.zipped_types.Goals as goal

pub places-preserved : goal.places-preserved
places-preserved c =
    let turn = zip_turn c.args.lefts.now c.args.rights.now c.places.yielded c.into_iter-left-iterator.result c.places.left-iterator c.next.new.self
    c.next.result (search rules) (search rules) c.places.yielded_by
    (c.in-Some.left, c.in-Some.right) c.in-Some.is c.next.ensures.steps in
    paired_more c.args.lefts.now c.args.rights.now c.places.yielded (c.in-Some.left, c.in-Some.right) c.in-Some.left.now c.in-Some.right.now c.places.pairs.items c.push.new.self.items
    (paired c.args.lefts.now c.args.rights.now) turn.0 turn.1 (turn.2 _) (turn.3 _) c.in_ok-push.ensures.items c.places.invariant

pub returns : goal.returns
returns c =
    paired_whole c.args.lefts.now c.args.rights.now _ c.places.pairs.items (paired c.args.lefts.now c.args.rights.now)
    (zip_end c.args.lefts.now c.args.rights.now c.places.yielded c.into_iter-left-iterator.result c.places.left-iterator c.next.new.self c.next.result
    (search rules) (search rules) c.places.yielded_by c.in-None.is c.next.ensures.steps)
    c.places.invariant
