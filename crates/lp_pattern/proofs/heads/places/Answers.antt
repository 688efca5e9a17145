use Rattle.std.proofs.Common.{rules}
use Rattle.std.proofs.lemmas.Slice.Zip.{zip_turn, zip_end}
use Rattle.lp_pattern.specs.Reading.{paired}
use Rattle.lp_pattern.proofs.PairedLists.{paired_more, paired_whole}
use Rattle.lp_pattern.proofs.heads.places.Goals as goal

pub loop-one-preserved : goal.loop-one-preserved
loop-one-preserved c =
    let turn = zip_turn c.args.ones.now c.args.others.now c.loop-one.yielded c.into_iter-one-iterator.result c.loop-one.one-iterator c.next.new.self c.next.result (search rules) (search rules) c.loop-one.yielded_by
    (c.in-Some.one, c.in-Some.other) c.in-Some.is c.next.ensures.steps in
    paired_more c.args.ones.now c.args.others.now c.loop-one.yielded (c.in-Some.one, c.in-Some.other) c.in-Some.one.now c.in-Some.other.now c.loop-one.pairs.items c.push.new.self.items
    (paired c.args.ones.now c.args.others.now) turn.0 turn.1 (turn.2 _) (turn.3 _) c.in_ok-push.ensures.items c.loop-one.invariant

pub returns : goal.returns
returns c =
    paired_whole c.args.ones.now c.args.others.now _ c.loop-one.pairs.items (paired c.args.ones.now c.args.others.now)
    (zip_end c.args.ones.now c.args.others.now c.loop-one.yielded c.into_iter-one-iterator.result c.loop-one.one-iterator c.next.new.self c.next.result (search rules) (search rules) c.loop-one.yielded_by c.in-None.is c.next.ensures.steps)
    c.loop-one.invariant
