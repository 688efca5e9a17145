use Rattle.std.proofs.Common.{◌≢◌, length, sym, refl, arith}
use Rattle.lp_syntax.proofs.Closing.{admits_as}
use Rattle.lp_syntax.proofs.begin.admits.Goals as goal

pub returns-in-Waits : goal.returns-in-Waits
returns-in-Waits c = admits_as c.args.frames.now c.index-frames-n.result _ c.args.g c.args.k _ (let h : length c.args.frames.now ≢ 0 = c.if-n-eq0.false in omega arith) c.index-frames-n.is (λ ts. rw c.in-Waits.is (sym c.fits_right.ensures))

pub returns-in-Item : goal.returns-in-Item
returns-in-Item c = admits_as c.args.frames.now c.index-frames-n.result _ c.args.g c.args.k _ (let h : length c.args.frames.now ≢ 0 = c.if-n-eq0.false in omega arith) c.index-frames-n.is (λ ts. rw c.in-Item.is (sym c.is_item.ensures))

pub returns-in-Under : goal.returns-in-Under
returns-in-Under c = admits_as c.args.frames.now c.index-frames-n.result _ c.args.g c.args.k _ (let h : length c.args.frames.now ≢ 0 = c.if-n-eq0.false in omega arith) c.index-frames-n.is (λ ts. rw c.in-Under.is (refl))

pub returns-in-Inside : goal.returns-in-Inside
returns-in-Inside c = admits_as c.args.frames.now c.index-frames-n.result _ c.args.g c.args.k _ (let h : length c.args.frames.now ≢ 0 = c.if-n-eq0.false in omega arith) c.index-frames-n.is (λ ts. rw c.in-Inside.is (refl))

pub returns-in-Tail : goal.returns-in-Tail
returns-in-Tail c = admits_as c.args.frames.now c.index-frames-n.result _ c.args.g c.args.k _ (let h : length c.args.frames.now ≢ 0 = c.if-n-eq0.false in omega arith) c.index-frames-n.is (λ ts. rw c.in-Tail.is (refl))
