use Rattle.std.proofs.Common.{◌∙◌, map, arith}
use Rattle.lp_verify.specs.inner.Indices.{lowered_by, merge}
use Rattle.lp_verify.proofs.MergeSteps.{behind, nothing_merged, from_left, from_right, from_both, all_done, has_clash, no_steps}
use Rattle.lp_verify.proofs.loose.merged.Goals as goal

pub loop-steps-init : goal.loop-steps-init
loop-steps-init c =
    let ls = map (lowered_by c.args.left_by) c.args.left.now in
    let rs = map (lowered_by c.args.right_by) c.args.right.now in
    (λ j. behind (c.new-merged.ensures.items j) (merge (c.saturating_add-steps.ensures j) ls rs)) ∙ nothing_merged _

pub loop-steps-preserved-in-Left : goal.loop-steps-preserved-in-Left
loop-steps-preserved-in-Left c =
    let less = c.saturating_sub-steps.ensures in
    let some = c.loop-steps-test.true in
    from_left c.args.left_by c.args.right_by c.loop-steps.steps c.saturating_sub-steps.result c.loop-steps.merged.items c.loop-steps.on_left.now
    c.loop-steps.on_right.now _ c.next_of.result c.first_lowered.result c.first_lowered-in-loop-steps.result c.next_of.ensures
    c.first_lowered.ensures c.first_lowered-in-loop-steps.ensures c.loop-steps.invariant (omega (arith, less, some)) c.in-Left.entry
    c.push.new.self.items c.rest-on_left.result.now c.in-Left.is c.in_ok-push-in-Left.ensures.items c.rest-on_left.ensures

pub loop-steps-preserved-in-Right : goal.loop-steps-preserved-in-Right
loop-steps-preserved-in-Right c =
    let less = c.saturating_sub-steps.ensures in
    let some = c.loop-steps-test.true in
    from_right c.args.left_by c.args.right_by c.loop-steps.steps c.saturating_sub-steps.result c.loop-steps.merged.items c.loop-steps.on_left.now
    c.loop-steps.on_right.now _ c.next_of.result c.first_lowered.result c.first_lowered-in-loop-steps.result c.next_of.ensures
    c.first_lowered.ensures c.first_lowered-in-loop-steps.ensures c.loop-steps.invariant (omega (arith, less, some)) c.in-Right.entry
    c.push-in-Right.new.self.items c.rest-on_right.result.now c.in-Right.is c.in_ok-push-in-Right.ensures.items c.rest-on_right.ensures

pub loop-steps-preserved : goal.loop-steps-preserved
loop-steps-preserved c =
    let less = c.saturating_sub-steps.ensures in
    let some = c.loop-steps-test.true in
    from_both c.args.left_by c.args.right_by c.loop-steps.steps c.saturating_sub-steps.result c.loop-steps.merged.items c.loop-steps.on_left.now
    c.loop-steps.on_right.now _ c.next_of.result c.first_lowered.result c.first_lowered-in-loop-steps.result c.next_of.ensures
    c.first_lowered.ensures c.first_lowered-in-loop-steps.ensures c.loop-steps.invariant (omega (arith, less, some)) c.in-Both.entry
    c.push-in-Both.new.self.items c.rest-on_left-in-Both.result.now c.rest-on_right-in-Both.result.now c.in-Both.is
    c.in_ok-push-in-Both.ensures.items c.rest-on_left-in-Both.ensures
    c.rest-on_right-in-Both.ensures

pub returns-in-Done : goal.returns-in-Done
returns-in-Done c =
    let less = c.saturating_sub-steps.ensures in
    let some = c.loop-steps-test.true in
    all_done c.args.left_by c.args.right_by c.loop-steps.steps c.saturating_sub-steps.result c.loop-steps.merged.items c.loop-steps.on_left.now
    c.loop-steps.on_right.now _ c.next_of.result c.first_lowered.result c.first_lowered-in-loop-steps.result c.next_of.ensures
    c.first_lowered.ensures c.first_lowered-in-loop-steps.ensures c.loop-steps.invariant (omega (arith, less, some)) c.in-Done.is

pub returns-in-Clash : goal.returns-in-Clash
returns-in-Clash c =
    let less = c.saturating_sub-steps.ensures in
    let some = c.loop-steps-test.true in
    has_clash c.args.left_by c.args.right_by c.loop-steps.steps c.saturating_sub-steps.result c.loop-steps.merged.items c.loop-steps.on_left.now
    c.loop-steps.on_right.now _ c.next_of.result c.first_lowered.result c.first_lowered-in-loop-steps.result c.next_of.ensures
    c.first_lowered.ensures c.first_lowered-in-loop-steps.ensures c.loop-steps.invariant (omega (arith, less, some)) c.in-Clash.is

pub returns : goal.returns
returns c =
    let none = c.loop-steps-test.false in
    no_steps c.loop-steps.steps c.loop-steps.merged.items _ _ _ (omega (arith, none)) c.loop-steps.invariant
