use Rattle.std.proofs.Common.{arith, ◌<◌, ◌≤◌, refl, length, Some, subst as transport}
use Rattle.lp_term.proofs.Trees.{extends-trans}
use Rattle.lp_term.proofs.Moves.{passed_up}
use Rattle.lp_model.specs.Pair.{Closing, closed}
use Rattle.lp_pattern.specs.declared.look.Spine.{Spine}
use Rattle.lp_pattern.specs.Under.{IsReading, under}
use Rattle.lp_pattern.specs.inner.Falling.{Unless, look_left}
use Rattle.lp_pattern.specs.Seen.{IsDeepWhere, at_hand}
use Rattle.lp_pattern.proofs.Walking.{reading_kept, deep_later, follows_on, ended_within, sees, start_stands, start_follows}
use Rattle.lp_pattern.proofs.look.look.Goals as goal

pub returns-in_err-found-clause-refused : goal.returns-in_err-found-clause-refused
returns-in_err-found-clause-refused c =
    passed_up c.from_residual-in_err-found.result c.in_err-found.field-0.0 (λ e. (r : Closing) → IsReading c.args.bank.now c.args.bindings.now r → IsDeepWhere c.args.limit (under c.args.bank.now r c.args.term) e)
    c.from_residual-in_err-found.ensures.1
    (λ r i.
    deep_later c.args.limit c.steps.spine.left (under c.args.bank.now r c.args.term) (closed r (at_hand c.steps.bank c.steps.spine)) c.in_err-found.field-0.0 c.steps.invariant.left
    (c.steps.invariant.followed r i) (c.in_err-found.ensures.refused r))

pub returns-in-Some-clause-reached : goal.returns-in-Some-clause-reached
returns-in-Some-clause-reached c = λ r i.
    let l : c.step.new.spine.left ≤ c.args.limit = omega (arith, c.in_ok-found.ensures.left, c.steps.invariant.left) in
    ended_within r c.args.limit (under c.args.bank.now r c.args.term) c.step.new.bank c.seen.new.bank c.step.new.spine c.in_ok-looked.looked.whole l
    (follows_on r c.args.limit (under c.args.bank.now r c.args.term) c.steps.bank c.step.new.bank c.steps.spine c.step.new.spine c.steps.invariant.left (c.steps.invariant.followed r i)
    (c.in_ok-found.ensures.followed r (reading_kept c.args.bank.now c.steps.bank c.args.bindings.now r c.steps.invariant.kept i)))
    c.in_ok-looked.ensures.same

pub returns-in-Some-clause-seen : goal.returns-in-Some-clause-seen
returns-in-Some-clause-seen c = λ r i.
    let l : c.step.new.spine.left ≤ c.args.limit = omega (arith, c.in_ok-found.ensures.left, c.steps.invariant.left) in
    let e = extends-trans c.args.bank.now c.step.new.bank c.seen.new.bank (extends-trans c.args.bank.now c.steps.bank c.step.new.bank c.steps.invariant.kept c.in_ok-found.ensures.kept) c.in_ok-looked.ensures.kept in
    sees c.args.limit c.seen.new.bank c.args.bindings.now r c.in_ok-looked.looked (under c.args.bank.now r c.args.term) (reading_kept c.args.bank.now c.seen.new.bank c.args.bindings.now r e i)
    c.in_ok-looked.ensures.looked
    (ended_within r c.args.limit (under c.args.bank.now r c.args.term) c.step.new.bank c.seen.new.bank c.step.new.spine c.in_ok-looked.looked.whole l
    (follows_on r c.args.limit (under c.args.bank.now r c.args.term) c.steps.bank c.step.new.bank c.steps.spine c.step.new.spine c.steps.invariant.left (c.steps.invariant.followed r i)
    (c.in_ok-found.ensures.followed r (reading_kept c.args.bank.now c.steps.bank c.args.bindings.now r c.steps.invariant.kept i)))
    c.in_ok-looked.ensures.same)

pub steps-preserved : goal.steps-preserved
steps-preserved c = record {
  kept = extends-trans c.args.bank.now c.steps.bank c.step.new.bank c.steps.invariant.kept c.in_ok-found.ensures.kept;
  stands = c.in_ok-found.ensures.stands;
  left = omega (arith, c.in_ok-found.ensures.left, c.steps.invariant.left);
  followed = λ r i.
      follows_on r c.args.limit (under c.args.bank.now r c.args.term) c.steps.bank c.step.new.bank c.steps.spine c.step.new.spine c.steps.invariant.left (c.steps.invariant.followed r i)
      (c.in_ok-found.ensures.followed r (reading_kept c.args.bank.now c.steps.bank c.args.bindings.now r c.steps.invariant.kept i));
}

pub steps-init : goal.steps-init
steps-init c =
    let s : Spine = record { top = c.in_ok-top.top; arguments = c.new.result; whole = Some c.in_ok-top.top; left = c.args.limit; values = c.len.result } in
    record {
      kept = c.in_ok-top.ensures.kept;
      stands = start_stands c.inside.new.self s c.in_ok-top.ensures.within refl c.new.ensures.items;
      left = omega arith;
      followed = λ r i. start_follows r c.args.bank.now c.inside.new.self c.args.term s c.args.limit c.in_ok-top.ensures.tree c.new.ensures.items;
    }

pub steps-smaller : goal.steps-smaller
steps-smaller c =
    let v = length c.args.bindings.now.terms.entries in
    transport (λ o. Unless o (look_left v c.step.new.spine < look_left v c.steps.spine)) c.in_default.is c.in_ok-found.ensures.falls
