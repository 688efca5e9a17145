use Rattle.std.proofs.Common.{subst}
use Rattle.lp_plain.specs.declared.outcome.Turn.{Turn}
use Rattle.lp_plain.specs.inner.Following.{Stands}
use Rattle.lp_plain.proofs.Passing.{follows_passes, passes_first, quiet_passes}
use Rattle.std.proofs.Common.{refl}
use Rattle.lp_plain.specs.Moving.{quiet}
use Rattle.lp_plain.proofs.HeardParts.{part_none, turn_part}
use Rattle.std.proofs.Common.{arith}
use Rattle.std.proofs.Common.{◌<◌, sym}
use Rattle.lp_plain.specs.inner.Remaining.{left_behind}
use Rattle.lp_plain.proofs.events.take_turn.Goals as goal

pub returns-in_ok-tell_turn-in-On-clause-stands : goal.returns-in_ok-tell_turn-in-On-clause-stands
returns-in_ok-tell_turn-in-On-clause-stands g c = λ k x h.
    let m = c.args.machine.now in
    let cs = c.args.constants.now in
    follows_passes k cs x m c.take_goal.new.machine _ _ _ c.in_ok-next-in-On.next
    (c.in_ok-next-in-On.ensures.stands k x (subst (λ t. Stands k x t m) c.in-On.is h)) (c.in_ok-tell_turn-in-On.ensures.told cs)

pub returns-in_ok-tell_turn-in-Back-clause-stands : goal.returns-in_ok-tell_turn-in-Back-clause-stands
returns-in_ok-tell_turn-in-Back-clause-stands g c = λ k x h.
    let m = c.args.machine.now in
    let cs = c.args.constants.now in
    quiet_passes k cs x m c.go_back.new.machine _ _ c.in_ok-next-in-Back.next c.in_ok-next-in-Back.ensures.steps
    (c.in_ok-next-in-Back.ensures.stands k x (subst (λ t. Stands k x t m) c.in-Back.is h)) (c.in_ok-tell_turn-in-Back.ensures.told cs)

pub returns-in-Answered-clause-stands : goal.returns-in-Answered-clause-stands
returns-in-Answered-clause-stands g c = λ k x h.
    let m = c.args.machine.now in
    passes_first k c.args.constants.now x m _ Turn.Answered (subst (λ t. Stands k x t m) c.in-Answered.is h)

pub returns-in-Ended-clause-stands : goal.returns-in-Ended-clause-stands
returns-in-Ended-clause-stands g c = λ k x h.
    let m = c.args.machine.now in
    passes_first k c.args.constants.now x m _ (Turn.Ended c.in-Ended.ending) (subst (λ t. Stands k x t m) c.in-Ended.is h)

pub returns-in_err-next-in-On-clause-begins : goal.returns-in_err-next-in-On-clause-begins
returns-in_err-next-in-On-clause-begins g c = λ k x h. c.take_goal.ensures.begins k x (subst (λ t. Stands k x t c.args.machine.now) c.in-On.is h)

pub returns-in_err-tell_turn-in-On-clause-begins : goal.returns-in_err-tell_turn-in-On-clause-begins
returns-in_err-tell_turn-in-On-clause-begins g c = λ k x h.
    let m = c.args.machine.now in
    let cs = c.args.constants.now in
    let h' = subst (λ t. Stands k x t m) c.in-On.is h in
    let f = c.in_ok-next-in-On.ensures.stands k x h' in
    turn_part cs k x f.0 c.in_ok-next-in-On.next c.take_goal.new.machine _ _ _ f.2 f.1.1 (c.tell_turn.ensures.part cs) (c.take_goal.ensures.begins k x h')

pub returns-in_ok-tell_turn-in-On-clause-begins : goal.returns-in_ok-tell_turn-in-On-clause-begins
returns-in_ok-tell_turn-in-On-clause-begins g c = λ k x h.
    let m = c.args.machine.now in
    let cs = c.args.constants.now in
    let h' = subst (λ t. Stands k x t m) c.in-On.is h in
    let f = c.in_ok-next-in-On.ensures.stands k x h' in
    turn_part cs k x f.0 c.in_ok-next-in-On.next c.take_goal.new.machine _ _ _ f.2 f.1.1 (c.tell_turn.ensures.part cs) (c.take_goal.ensures.begins k x h')

pub returns-in_err-next-in-Back-clause-begins : goal.returns-in_err-next-in-Back-clause-begins
returns-in_err-next-in-Back-clause-begins g c = λ k x h. part_none c.args.constants.now x.notes _ _ refl

pub returns-in_err-tell_turn-in-Back-clause-begins : goal.returns-in_err-tell_turn-in-Back-clause-begins
returns-in_err-tell_turn-in-Back-clause-begins g c = λ k x h.
    let cs = c.args.constants.now in
    let f = c.in_ok-next-in-Back.ensures.stands k x (subst (λ t. Stands k x t c.args.machine.now) c.in-Back.is h) in
    turn_part cs k x quiet c.in_ok-next-in-Back.next c.go_back.new.machine _ _ _ f refl (c.tell_turn-in-Back.ensures.part cs) (part_none cs x.notes _ _ refl)

pub returns-in_ok-tell_turn-in-Back-clause-begins : goal.returns-in_ok-tell_turn-in-Back-clause-begins
returns-in_ok-tell_turn-in-Back-clause-begins g c = λ k x h.
    let cs = c.args.constants.now in
    let f = c.in_ok-next-in-Back.ensures.stands k x (subst (λ t. Stands k x t c.args.machine.now) c.in-Back.is h) in
    turn_part cs k x quiet c.in_ok-next-in-Back.next c.go_back.new.machine _ _ _ f refl (c.tell_turn-in-Back.ensures.part cs) (part_none cs x.notes _ _ refl)

pub returns-in-Answered-clause-begins : goal.returns-in-Answered-clause-begins
returns-in-Answered-clause-begins g c = λ k x h. part_none c.args.constants.now x.notes _ _ refl

pub returns-in-Ended-clause-begins : goal.returns-in-Ended-clause-begins
returns-in-Ended-clause-begins g c = λ k x h. part_none c.args.constants.now x.notes _ _ refl

pub returns-in_ok-tell_turn-in-On-clause-within : goal.returns-in_ok-tell_turn-in-On-clause-within
returns-in_ok-tell_turn-in-On-clause-within g c = λ k x h. c.in_ok-next-in-On.ensures.within k x (subst (λ t. Stands k x t c.args.machine.now) c.in-On.is h)

pub returns-in_ok-tell_turn-in-Back-clause-within : goal.returns-in_ok-tell_turn-in-Back-clause-within
returns-in_ok-tell_turn-in-Back-clause-within g c = λ k x h. let e = c.in_ok-next-in-Back.ensures.steps in omega (arith, e)

pub returns-in-Answered-clause-within : goal.returns-in-Answered-clause-within
returns-in-Answered-clause-within g c = λ k x h. omega arith

pub returns-in-Ended-clause-within : goal.returns-in-Ended-clause-within
returns-in-Ended-clause-within g c = λ k x h. omega arith

pub returns-in_ok-tell_turn-in-On-clause-less : goal.returns-in_ok-tell_turn-in-On-clause-less
returns-in_ok-tell_turn-in-On-clause-less g c = λ p.
    subst (λ t. left_behind c.in_ok-next-in-On.next c.take_goal.new.machine < left_behind t c.args.machine.now) (sym c.in-On.is) c.in_ok-next-in-On.ensures.less

pub returns-in_ok-tell_turn-in-Back-clause-less : goal.returns-in_ok-tell_turn-in-Back-clause-less
returns-in_ok-tell_turn-in-Back-clause-less g c = λ p.
    subst (λ t. left_behind c.in_ok-next-in-Back.next c.go_back.new.machine < left_behind t c.args.machine.now) (sym c.in-Back.is) c.in_ok-next-in-Back.ensures.less

pub returns-in-Answered-clause-less : goal.returns-in-Answered-clause-less
returns-in-Answered-clause-less g c = λ p. absurd (let q = subst (λ t. 0 < left_behind t c.args.machine.now) c.in-Answered.is p in omega (arith, q))

pub returns-in-Ended-clause-less : goal.returns-in-Ended-clause-less
returns-in-Ended-clause-less g c = λ p. absurd (let q = subst (λ t. 0 < left_behind t c.args.machine.now) c.in-Ended.is p in omega (arith, q))
