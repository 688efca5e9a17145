use Rattle.std.proofs.Common.{◌-◌, arith}
use Rattle.lp_term.specs.Frame.{IsSpent, standing}
use Rattle.lp_term.proofs.Frames.{frames_stay, frame_stays}
use Rattle.lp_term.proofs.Moves.{passed_up, with_left, innermost, put_back, taken_frame, taken_argument, done_frame, unmoved, skipped, shut, deeper, went_in, spent_inside}
use Rattle.lp_term.proofs.Loads.{shut_load, skipped_load, deeper_load}
use Rattle.lp_term.proofs.normal.step.Goals as goal

pub returns-in_default-pop-clause-frames : goal.returns-in_default-pop-clause-frames
returns-in_default-pop-clause-frames c =
    let b = c.args.bank.now in
    let n = c.close.new.bank in
    let i = innermost b c.args.frames.now.items c.pop.new.self.items c.in-Some.frame c.in-Some.ensures.items c.requires.frames in
    let j = innermost b c.pop.new.self.items c.pop-in_default-pop.new.self.items c.in-Some-pop-2.outer c.in-Some-pop-2.ensures.items i.0 in
    let e = c.close.ensures.kept in
    put_back n c.push-in_default-pop.new.self.items c.pop-in_default-pop.new.self.items _ c.in_ok-push-2.ensures.items (frames_stay b n c.pop-in_default-pop.new.self.items e j.0)
    (done_frame n c.in-Some-pop-2.outer c.push.new.self c.in_ok-id.id c.in_ok-push.ensures.items (frame_stays b n e c.in-Some-pop-2.outer j.1) c.in_ok-id.ensures.within c.in_ok-id.ensures.normal)

pub returns-in_default-pop-clause-taken : goal.returns-in_default-pop-clause-taken
returns-in_default-pop-clause-taken c =
    let b = c.args.bank.now in
    let i = innermost b c.args.frames.now.items c.pop.new.self.items c.in-Some.frame c.in-Some.ensures.items c.requires.frames in
    unmoved (c.args.left.now - c.args.left.now) (standing b c.args.frames.now.items) (standing c.close.new.bank c.push-in_default-pop.new.self.items) (omega arith)
    (shut b c.close.new.bank c.args.frames.now.items c.pop.new.self.items c.pop-in_default-pop.new.self.items c.push-in_default-pop.new.self.items c.in-Some.frame c.in-Some-pop-2.outer
    c.pop-2.new.self c.push.new.self c.in_ok-id.id c.in-Some.ensures.items c.in_default-pop.ensures.items c.in-Some-pop-2.ensures.items c.close.ensures.kept i.0 c.in_ok-id.ensures.tree
    c.in_ok-push.ensures.items c.in_ok-push-2.ensures.items)

pub returns-then-is_known_normal-clause-frames : goal.returns-then-is_known_normal-clause-frames
returns-then-is_known_normal-clause-frames c =
    let b = c.args.bank.now in
    let i = innermost b c.args.frames.now.items c.pop.new.self.items c.in-Some.frame c.in-Some.ensures.items c.requires.frames in
    let q = c.in-Some-pop.ensures.items in
    let a = taken_argument b c.in-Some.frame c.pop-2.new.self c.in-Some-pop.arg q i.1 in
    put_back b c.push-then-is_known_normal-2.new.self.items c.pop.new.self.items _ c.in_ok-push-4.ensures.items i.0
    (done_frame b (with_left c.in-Some.frame c.pop-2.new.self) c.push-then-is_known_normal.new.self c.in-Some-pop.arg c.in_ok-push-3.ensures.items
    (taken_frame b c.in-Some.frame c.pop-2.new.self c.in-Some-pop.arg q i.1) a.0 (c.is_known_normal.ensures c.if-is_known_normal.true))

pub returns-then-is_known_normal-clause-taken : goal.returns-then-is_known_normal-clause-taken
returns-then-is_known_normal-clause-taken c =
    let b = c.args.bank.now in
    unmoved (c.args.left.now - c.args.left.now) (standing b c.args.frames.now.items) (standing b c.push-then-is_known_normal-2.new.self.items) (omega arith)
    (skipped b c.args.frames.now.items c.pop.new.self.items c.push-then-is_known_normal-2.new.self.items c.in-Some.frame c.pop-2.new.self c.push-then-is_known_normal.new.self c.in-Some-pop.arg
    c.in-Some.ensures.items c.in-Some-pop.ensures.items c.in_ok-push-3.ensures.items c.in_ok-push-4.ensures.items)

pub returns-in_err-inner-clause-refused : goal.returns-in_err-inner-clause-refused
returns-in_err-inner-clause-refused c =
    let b = c.args.bank.now in
    let i = innermost b c.args.frames.now.items c.pop.new.self.items c.in-Some.frame c.in-Some.ensures.items c.requires.frames in
    let q = c.in-Some-pop.ensures.items in
    let m = put_back b c.push-2.new.self.items c.pop.new.self.items (with_left c.in-Some.frame c.pop-2.new.self) c.in_ok-push-5.ensures.items i.0 (taken_frame b c.in-Some.frame c.pop-2.new.self c.in-Some-pop.arg q i.1) in
    passed_up c.from_residual-in_err-inner.result c.in_err-inner.field-0.0 (IsSpent c.args.limit c.args.left.now (standing b c.args.frames.now.items)) c.from_residual-in_err-inner.ensures.1
    (spent_inside b c.args.frames.now.items c.push-2.new.self.items c.in-Some-pop.arg c.args.limit c.args.left.now c.in_err-inner.field-0.0
    (deeper b c.args.frames.now.items c.pop.new.self.items c.push-2.new.self.items c.in-Some.frame c.pop-2.new.self c.in-Some-pop.arg c.in-Some.ensures.items q c.in_ok-push-5.ensures.items)
    m.1 c.in_err-inner.ensures.refused)

pub returns-clause-frames : goal.returns-clause-frames
returns-clause-frames c =
    let b = c.args.bank.now in
    let i = innermost b c.args.frames.now.items c.pop.new.self.items c.in-Some.frame c.in-Some.ensures.items c.requires.frames in
    let q = c.in-Some-pop.ensures.items in
    let m = put_back b c.push-2.new.self.items c.pop.new.self.items (with_left c.in-Some.frame c.pop-2.new.self) c.in_ok-push-5.ensures.items i.0 (taken_frame b c.in-Some.frame c.pop-2.new.self c.in-Some-pop.arg q i.1) in
    put_back c.open.new.bank c.push-3.new.self.items c.push-2.new.self.items c.in_ok-inner.inner c.in_ok-push-6.ensures.items (frames_stay b c.open.new.bank c.push-2.new.self.items c.open.ensures.kept m.1) c.in_ok-inner.ensures.frame

pub returns-clause-taken : goal.returns-clause-taken
returns-clause-taken c =
    let b = c.args.bank.now in
    let i = innermost b c.args.frames.now.items c.pop.new.self.items c.in-Some.frame c.in-Some.ensures.items c.requires.frames in
    let q = c.in-Some-pop.ensures.items in
    let m = put_back b c.push-2.new.self.items c.pop.new.self.items (with_left c.in-Some.frame c.pop-2.new.self) c.in_ok-push-5.ensures.items i.0 (taken_frame b c.in-Some.frame c.pop-2.new.self c.in-Some-pop.arg q i.1) in
    went_in b c.open.new.bank c.args.frames.now.items c.push-2.new.self.items c.push-3.new.self.items c.in_ok-inner.inner c.in-Some-pop.arg (c.args.left.now - c.open.new.left)
    (deeper b c.args.frames.now.items c.pop.new.self.items c.push-2.new.self.items c.in-Some.frame c.pop-2.new.self c.in-Some-pop.arg c.in-Some.ensures.items q c.in_ok-push-5.ensures.items)
    m.1 c.open.ensures.kept c.in_ok-inner.ensures.taken c.in_ok-push-6.ensures.items

pub returns-in_default-pop-clause-load : goal.returns-in_default-pop-clause-load
returns-in_default-pop-clause-load c = λ z e.
    shut_load c.args.bank.now c.close.new.bank c.args.frames.now.items c.pop.new.self.items c.pop-in_default-pop.new.self.items c.push-in_default-pop.new.self.items c.in-Some.frame c.in-Some-pop-2.outer c.push.new.self
    c.close.ensures.kept c.requires.frames c.in-Some.ensures.items c.in-Some-pop-2.ensures.items c.in_ok-push-2.ensures.items

pub returns-then-is_known_normal-clause-load : goal.returns-then-is_known_normal-clause-load
returns-then-is_known_normal-clause-load c = λ z e.
    skipped_load c.args.bank.now c.args.frames.now.items c.pop.new.self.items c.push-then-is_known_normal-2.new.self.items c.in-Some.frame c.pop-2.new.self c.push-then-is_known_normal.new.self c.in-Some-pop.arg
    c.in-Some.ensures.items c.in-Some-pop.ensures.items c.in_ok-push-4.ensures.items

pub returns-clause-load : goal.returns-clause-load
returns-clause-load c = λ z e.
    let b = c.args.bank.now in
    let i = innermost b c.args.frames.now.items c.pop.new.self.items c.in-Some.frame c.in-Some.ensures.items c.requires.frames in
    let q = c.in-Some-pop.ensures.items in
    let m = put_back b c.push-2.new.self.items c.pop.new.self.items (with_left c.in-Some.frame c.pop-2.new.self) c.in_ok-push-5.ensures.items i.0 (taken_frame b c.in-Some.frame c.pop-2.new.self c.in-Some-pop.arg q i.1) in
    deeper_load b c.open.new.bank c.args.frames.now.items c.pop.new.self.items c.push-2.new.self.items c.push-3.new.self.items c.in-Some.frame c.in_ok-inner.inner c.pop-2.new.self c.in-Some-pop.arg c.open.ensures.kept m.1
    c.in-Some.ensures.items q c.in_ok-push-5.ensures.items c.in_ok-push-6.ensures.items (c.in_ok-inner.ensures.load e)
