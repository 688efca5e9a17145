use Rattle.std.proofs.Common.{◌∙◌, map, refl, subst}
use Rattle.lp_watch.specs.Crowd.{places}
use Rattle.lp_plain.specs.inner.Following.{Passes}
use Rattle.lp_plain.proofs.Passing.{passes_back, passes_first, passes_on}
use Rattle.lp_plain.proofs.HeardParts.{part_none, parts_behind}
use Rattle.std.proofs.Common.{arith}
use Rattle.lp_plain.proofs.Beginning.{both_within}
use Rattle.std.proofs.Common.{◌<◌, sym}
use Rattle.lp_plain.specs.inner.Remaining.{left_behind}
use Rattle.lp_plain.proofs.events.run.Goals as goal

pub turns-init : goal.turns-init
turns-init g c =
    let old = places c.args.crowd.now.texts.items (map g.W.Watch.seen c.args.crowd.now.watchers.now.items) in
    ((λ k x h. passes_first k c.args.constants.now x c.args.machine.now old c.args.first h), refl, λ k x h. part_none c.args.constants.now x.notes old old refl, λ k x h. omega arith)

pub turns-preserved-in-On : goal.turns-preserved-in-On
turns-preserved-in-On g c =
    let old = places c.args.crowd.now.texts.items (map g.W.Watch.seen c.args.crowd.now.watchers.now.items) in
    let mid = places c.turns.crowd.texts.items (map g.W.Watch.seen c.turns.crowd.watchers.now.items) in
    let new = places c.take_turn.new.crowd.texts.items (map g.W.Watch.seen c.take_turn.new.crowd.watchers.now.items) in (
      (λ k x h.
          passes_on k c.args.constants.now x c.args.machine.now c.turns.machine c.take_turn.new.machine old mid new c.turns.turn c.in_ok-turn-in-On.turn c.in-On.is
          (c.turns.invariant.0 k x h) (λ z s. c.in_ok-turn-in-On.ensures.stands k z s)),
      c.take_turn.ensures.same ∙ c.turns.invariant.1,
      λ k x h.
          let cs = c.args.constants.now in
          let p = subst (Passes k cs x c.args.machine.now c.turns.machine old mid) c.in-On.is (c.turns.invariant.0 k x h) in
          parts_behind cs x p.0 p.2.0 old mid new p.2.1 p.1.1 (c.take_turn.ensures.begins k p.2.0 p.2.2),
      λ k x h.
          let p = subst (Passes k c.args.constants.now x c.args.machine.now c.turns.machine old mid) c.in-On.is (c.turns.invariant.0 k x h) in
          both_within x p.0 p.2.0 c.args.machine.now.counts.steps c.turns.machine.counts.steps c.take_turn.new.machine.counts.steps p.2.1 p.1.0 (c.in_ok-turn-in-On.ensures.within k p.2.0 p.2.2),
    )

pub turns-preserved : goal.turns-preserved
turns-preserved g c =
    let old = places c.args.crowd.now.texts.items (map g.W.Watch.seen c.args.crowd.now.watchers.now.items) in
    let mid = places c.turns.crowd.texts.items (map g.W.Watch.seen c.turns.crowd.watchers.now.items) in
    let new = places c.take_turn-in-Back.new.crowd.texts.items (map g.W.Watch.seen c.take_turn-in-Back.new.crowd.watchers.now.items) in (
      (λ k x h.
          passes_back k c.args.constants.now x c.args.machine.now c.turns.machine c.take_turn-in-Back.new.machine old mid new c.turns.turn c.in_ok-turn-in-Back.turn c.in-Back.is
          (c.turns.invariant.0 k x h) (λ z s. c.in_ok-turn-in-Back.ensures.stands k z s)),
      c.take_turn-in-Back.ensures.same ∙ c.turns.invariant.1,
      λ k x h.
          let cs = c.args.constants.now in
          let p = subst (Passes k cs x c.args.machine.now c.turns.machine old mid) c.in-Back.is (c.turns.invariant.0 k x h) in
          parts_behind cs x p.0 p.2.0 old mid new p.2.1 p.1.1 (c.take_turn-in-Back.ensures.begins k p.2.0 p.2.2),
      λ k x h.
          let p = subst (Passes k c.args.constants.now x c.args.machine.now c.turns.machine old mid) c.in-Back.is (c.turns.invariant.0 k x h) in
          both_within x p.0 p.2.0 c.args.machine.now.counts.steps c.turns.machine.counts.steps c.take_turn-in-Back.new.machine.counts.steps p.2.1 p.1.0 (c.in_ok-turn-in-Back.ensures.within k p.2.0 p.2.2),
    )

pub returns-in-Answered-clause-stands : goal.returns-in-Answered-clause-stands
returns-in-Answered-clause-stands g c = λ k x h.
    let old = places c.args.crowd.now.texts.items (map g.W.Watch.seen c.args.crowd.now.watchers.now.items) in
    let new = places c.turns.crowd.texts.items (map g.W.Watch.seen c.turns.crowd.watchers.now.items) in
    subst (Passes k c.args.constants.now x c.args.machine.now c.turns.machine old new) c.in-Answered.is (c.turns.invariant.0 k x h)

pub returns-in-Ended-clause-stands : goal.returns-in-Ended-clause-stands
returns-in-Ended-clause-stands g c = λ k x h.
    let old = places c.args.crowd.now.texts.items (map g.W.Watch.seen c.args.crowd.now.watchers.now.items) in
    let new = places c.turns.crowd.texts.items (map g.W.Watch.seen c.turns.crowd.watchers.now.items) in
    subst (Passes k c.args.constants.now x c.args.machine.now c.turns.machine old new) c.in-Ended.is (c.turns.invariant.0 k x h)

pub returns-in-Answered-clause-same : goal.returns-in-Answered-clause-same
returns-in-Answered-clause-same g c = c.turns.invariant.1

pub returns-in-Ended-clause-same : goal.returns-in-Ended-clause-same
returns-in-Ended-clause-same g c = c.turns.invariant.1

pub returns-in_err-turn-in-On-clause-same : goal.returns-in_err-turn-in-On-clause-same
returns-in_err-turn-in-On-clause-same g c = c.take_turn.ensures.same ∙ c.turns.invariant.1

pub returns-in_err-turn-in-Back-clause-same : goal.returns-in_err-turn-in-Back-clause-same
returns-in_err-turn-in-Back-clause-same g c = c.take_turn-in-Back.ensures.same ∙ c.turns.invariant.1

pub returns-in_err-turn-in-On-clause-begins : goal.returns-in_err-turn-in-On-clause-begins
returns-in_err-turn-in-On-clause-begins g c = λ k x h.
    let cs = c.args.constants.now in
    let p = subst (Passes k cs x c.args.machine.now c.turns.machine _ _) c.in-On.is (c.turns.invariant.0 k x h) in
    parts_behind cs x p.0 p.2.0 _ _ _ p.2.1 p.1.1 (c.take_turn.ensures.begins k p.2.0 p.2.2)

pub returns-in_err-turn-in-Back-clause-begins : goal.returns-in_err-turn-in-Back-clause-begins
returns-in_err-turn-in-Back-clause-begins g c = λ k x h.
    let cs = c.args.constants.now in
    let p = subst (Passes k cs x c.args.machine.now c.turns.machine _ _) c.in-Back.is (c.turns.invariant.0 k x h) in
    parts_behind cs x p.0 p.2.0 _ _ _ p.2.1 p.1.1 (c.take_turn-in-Back.ensures.begins k p.2.0 p.2.2)

pub returns-in-Answered-clause-begins : goal.returns-in-Answered-clause-begins
returns-in-Answered-clause-begins g c = c.turns.invariant.2

pub returns-in-Ended-clause-begins : goal.returns-in-Ended-clause-begins
returns-in-Ended-clause-begins g c = c.turns.invariant.2

pub returns-in-Answered-clause-within : goal.returns-in-Answered-clause-within
returns-in-Answered-clause-within g c = c.turns.invariant.3

pub returns-in-Ended-clause-within : goal.returns-in-Ended-clause-within
returns-in-Ended-clause-within g c = c.turns.invariant.3

pub turns-smaller-in-On : goal.turns-smaller-in-On
turns-smaller-in-On g c =
    subst (λ t. left_behind c.in_ok-turn-in-On.turn c.take_turn.new.machine < left_behind t c.turns.machine) (sym c.in-On.is) (c.in_ok-turn-in-On.ensures.less (omega arith))

pub turns-smaller : goal.turns-smaller
turns-smaller g c =
    subst (λ t. left_behind c.in_ok-turn-in-Back.turn c.take_turn-in-Back.new.machine < left_behind t c.turns.machine) (sym c.in-Back.is) (c.in_ok-turn-in-Back.ensures.less (omega arith))
