use Rattle.std.proofs.Common.{◌+◌, ◌-◌, ◌<◌, suc, length, take, drop, refl, arith, rules}
use Rattle.lp_model.specs.Pair.{closed}
use Rattle.lp_term.proofs.Several.{last_ones}
use Rattle.lp_term.proofs.Contract.{each_left, each_steps}
use Rattle.lp_model.specs.Look.{weak_step}
use Rattle.lp_pattern.specs.declared.look.Spine.{Spine}
use Rattle.lp_pattern.proofs.Falls.{contraction_falls}
use Rattle.lp_pattern.proofs.Looking.{closed_redex}
use Rattle.lp_pattern.proofs.Walking.{too_deep, whole_alone}
use Rattle.lp_pattern.proofs.look.contract.Goals as goal

none_left : (c : goal.Then-spine-eq0) → 0 < length c.args.spine.now.arguments.items
none_left c = search rules

pub returns-then-spine-eq0-clause-refused : goal.returns-then-spine-eq0-clause-refused
returns-then-spine-eq0-clause-refused c = λ r.
    too_deep r c.args.bank.now c.args.spine.now.top c.args.body c.args.spine.now.arguments.items c.args.spine.now.left c.if-spine-eq0.true c.requires.top (none_left c)

some : (c : goal.After-term_count-count) → 0 < length c.args.spine.now.arguments.items
some c = search rules

pub returns-clause-stands : goal.returns-clause-stands
returns-clause-stands c =
    let all = c.args.spine.now.arguments.items in
    let rest = c.truncate.new.self.items in
    let more = c.body_under-more.result.1 in
    let k = c.len-count.result - 1 - more in
    let vs = take (length c.deref.result.now - k) (drop k c.deref.result.now) in
    let w = last_ones all c.deref.result.now rest k more c.len-count.result c.min-most.result c.deref.ensures.value (omega (arith, c.len-count.ensures, c.args.spine.now.arguments.ok)) refl c.body_under-more.ensures.count
    (omega (arith, c.min-most.ensures)) (omega (arith, some c, c.len-count.ensures, c.args.spine.now.arguments.ok)) c.truncate.ensures.items in
    record {
      top = c.in_ok-top.ensures.within;
      arguments =
          each_left c.args.bank.now c.args.spine.now.top c.args.body c.body_under-more.result.0 more all rest vs c.requires.top c.body_under-more.ensures.tree w.0 w.1 c.contracted.new.bank c.in_ok-top.ensures.kept c.requires.stands.arguments;
      whole = whole_alone c.contracted.new.bank c.in_ok-top.top rest c.alone-spine.result c.in_ok-top.ensures.within c.alone-spine.ensures;
    }

pub returns-clause-followed : goal.returns-clause-followed
returns-clause-followed c = λ r.
    let all = c.args.spine.now.arguments.items in
    let rest = c.truncate.new.self.items in
    let more = c.body_under-more.result.1 in
    let k = c.len-count.result - 1 - more in
    let vs = take (length c.deref.result.now - k) (drop k c.deref.result.now) in
    let w = last_ones all c.deref.result.now rest k more c.len-count.result c.min-most.result c.deref.ensures.value (omega (arith, c.len-count.ensures, c.args.spine.now.arguments.ok)) refl c.body_under-more.ensures.count
    (omega (arith, c.min-most.ensures)) (omega (arith, some c, c.len-count.ensures, c.args.spine.now.arguments.ok)) c.truncate.ensures.items in (
      suc more,
      omega (arith, c.if-spine-eq0.false, c.body_under-more.ensures.count, c.min-most.ensures),
      each_steps c.args.bank.now c.args.spine.now.top c.args.body c.body_under-more.result.0 more all rest vs c.requires.top c.body_under-more.ensures.tree w.0 w.1 weak_step (closed r) (closed_redex r)
          c.contracted.new.bank c.in_ok-top.top c.in_ok-top.ensures.kept c.requires.stands.arguments c.in_ok-top.ensures.tree,
    )

pub returns-clause-falls : goal.returns-clause-falls
returns-clause-falls c =
    let new : Spine =
    record { top = c.in_ok-top.top; arguments = c.truncate.new.self; whole = c.alone-spine.result; left = c.args.spine.now.left - (c.body_under-more.result.1 + 1); values = c.len-spine.result } in
    contraction_falls (length c.args.bindings.now.terms.entries) c.args.spine.now new (omega (arith, c.if-spine-eq0.false)) c.len-spine.ensures.len (omega (arith, c.in_ok-top.ensures.within, c.term_count-count.ensures.few))
