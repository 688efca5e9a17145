use Rattle.std.proofs.Common.{ap, arith, map, refl, subst, sym}
use Rattle.lp_watch.specs.Crowd.{places}
use Rattle.lp_model.specs.declared.ending.Ending.TheVariants.{Enough}
use Rattle.lp_plain.specs.Hearing.{Hears, HeardBy, back_in}
use Rattle.lp_plain.specs.Held.{constants_of, ended, steps_of}
use Rattle.lp_plain.specs.Moving.{Tally}
use Rattle.lp_plain.proofs.Between.{first_told, given_enough, later_told, over_told}
use Rattle.lp_plain.proofs.Hearing.{heard_more, plus_none}
use Rattle.lp_plain.specs.Hearing.{HearsPart}
use Rattle.lp_plain.proofs.Beginning.{first_begins, later_begins}
use Rattle.lp_plain.proofs.HeardParts.{part_behind, part_more, part_none}
use Rattle.std.proofs.Common.{◌+◌, ◌≤◌}
use Rattle.lp_plain.proofs.search.Search.advance.Goals as goal

pub returns-then-self-clause-search : goal.returns-then-self-clause-search
unfolding ended constants_of steps_of
returns-then-self-clause-search g c = λ none P n s h en x t d.
    let old = places c.args.crowd.now.texts.items (map g.W.Watch.seen c.args.crowd.now.watchers.now.items) in
    let q = given_enough P n c.args.self.now c.end.new.self s none (omega arith) c.end.ensures.now h x t d in (
      over_told x c.end.result Enough q.0 c.end.ensures.is,
      q.1,
      (
        (let a = c.end.ensures.steps in let b = ap (λ (y : Tally). y.steps) q.2 in omega (arith, a, b)),
        subst (λ ns. Hears c.args.self.now.constants.items ns old old) (sym (ap (λ (y : Tally). y.notes) q.2)) refl,
      ),
    )

pub returns-then-self-eq0-clause-search : goal.returns-then-self-eq0-clause-search
unfolding ended constants_of steps_of
returns-then-self-eq0-clause-search g c = λ none P n s h en x t d.
    let old = c.args.self.now in
    let new = c.go_on.new.self in
    first_told P n old new s x t d (HeardBy old.constants.items old.machine new.machine _ _) (HeardBy old.constants.items old.machine new.machine _ _)
    c.in_ok-event.event none (omega arith) (omega arith) en (omega arith) (λ y l. l) c.in_ok-event.ensures.search h

pub returns-clause-search : goal.returns-clause-search
unfolding ended constants_of steps_of
returns-clause-search g c = λ none P n s h en x t d.
    let old = c.args.self.now in
    let new = c.go_on-2.new.self in
    later_told P n old new s x t d (HeardBy old.constants.items old.machine new.machine _ _) (HeardBy old.constants.items old.machine new.machine _ _)
    c.in_ok-event-2.event none (omega arith) (omega arith) en (omega arith)
    (λ y l. heard_more old.constants.items (record { steps = 0; notes = back_in old.machine }) y old.machine old.machine new.machine _ _ _
    (plus_none old.machine.counts.steps, c.in_ok-tell_back.ensures.told old.constants.items) l)
    c.in_ok-event-2.ensures.search h

pub returns-then-self-clause-begins : goal.returns-then-self-clause-begins
unfolding ended constants_of
returns-then-self-clause-begins g c = λ none P n s h x t d. part_none c.args.self.now.constants.items _ _ _ refl

pub returns-in_err-tell_back-clause-begins : goal.returns-in_err-tell_back-clause-begins
unfolding ended constants_of
returns-in_err-tell_back-clause-begins g c = λ none P n s h x t d.
    let old = c.args.self.now in
    let before = places c.args.crowd.now.texts.items (map g.W.Watch.seen c.args.crowd.now.watchers.now.items) in
    let after = places c.tell_back.new.crowd.texts.items (map g.W.Watch.seen c.tell_back.new.crowd.watchers.now.items) in
    let cs = old.constants.items in
    later_begins P n old s x t d (λ y. HearsPart cs y.notes before after) none (omega arith) (omega arith) (omega arith)
    (λ k z it st. part_more cs (back_in old.machine) z.notes before after (c.tell_back.ensures.part cs)) h

pub returns-in_err-event-clause-begins : goal.returns-in_err-event-clause-begins
unfolding ended constants_of
returns-in_err-event-clause-begins g c = λ none P n s h x t d.
    let old = c.args.self.now in
    let before = places c.args.crowd.now.texts.items (map g.W.Watch.seen c.args.crowd.now.watchers.now.items) in
    let after = places c.go_on.new.crowd.texts.items (map g.W.Watch.seen c.go_on.new.crowd.watchers.now.items) in
    first_begins P n old s x t d (λ y. HearsPart old.constants.items y.notes before after) none (omega arith) (omega arith) (omega arith) c.go_on.ensures.begins h

pub returns-then-self-eq0-clause-begins : goal.returns-then-self-eq0-clause-begins
unfolding ended constants_of
returns-then-self-eq0-clause-begins g c = λ none P n s h x t d.
    let old = c.args.self.now in
    let before = places c.args.crowd.now.texts.items (map g.W.Watch.seen c.args.crowd.now.watchers.now.items) in
    let after = places c.go_on.new.crowd.texts.items (map g.W.Watch.seen c.go_on.new.crowd.watchers.now.items) in
    first_begins P n old s x t d (λ y. HearsPart old.constants.items y.notes before after) none (omega arith) (omega arith) (omega arith) c.go_on.ensures.begins h

pub returns-in_err-event-2-clause-begins : goal.returns-in_err-event-2-clause-begins
unfolding ended constants_of
returns-in_err-event-2-clause-begins g c = λ none P n s h x t d.
    let old = c.args.self.now in
    let before = places c.args.crowd.now.texts.items (map g.W.Watch.seen c.args.crowd.now.watchers.now.items) in
    let mid = places c.tell_back.new.crowd.texts.items (map g.W.Watch.seen c.tell_back.new.crowd.watchers.now.items) in
    let after = places c.go_on-2.new.crowd.texts.items (map g.W.Watch.seen c.go_on-2.new.crowd.watchers.now.items) in
    let cs = old.constants.items in
    later_begins P n old s x t d (λ y. HearsPart cs y.notes before after) none (omega arith) (omega arith) (omega arith)
    (λ k z it st. part_behind cs (back_in old.machine) z.notes before mid after (c.in_ok-tell_back.ensures.told cs) (c.go_on-2.ensures.begins k z it st)) h

pub returns-clause-begins : goal.returns-clause-begins
unfolding ended constants_of
returns-clause-begins g c = λ none P n s h x t d.
    let old = c.args.self.now in
    let before = places c.args.crowd.now.texts.items (map g.W.Watch.seen c.args.crowd.now.watchers.now.items) in
    let mid = places c.tell_back.new.crowd.texts.items (map g.W.Watch.seen c.tell_back.new.crowd.watchers.now.items) in
    let after = places c.go_on-2.new.crowd.texts.items (map g.W.Watch.seen c.go_on-2.new.crowd.watchers.now.items) in
    let cs = old.constants.items in
    later_begins P n old s x t d (λ y. HearsPart cs y.notes before after) none (omega arith) (omega arith) (omega arith)
    (λ k z it st. part_behind cs (back_in old.machine) z.notes before mid after (c.in_ok-tell_back.ensures.told cs) (c.go_on-2.ensures.begins k z it st)) h

pub returns-then-self-clause-within : goal.returns-then-self-clause-within
unfolding ended steps_of
returns-then-self-clause-within g c = λ none P n s h x t d. let a = c.end.ensures.steps in omega (arith, a)

pub returns-then-self-eq0-clause-within : goal.returns-then-self-eq0-clause-within
unfolding ended steps_of
returns-then-self-eq0-clause-within g c = λ none P n s h x t d.
    let old = c.args.self.now in
    first_begins P n old s x t d (λ y. c.go_on.new.self.machine.counts.steps ≤ old.machine.counts.steps + y.steps) none (omega arith) (omega arith) (omega arith) c.in_ok-event.ensures.within h

pub returns-clause-within : goal.returns-clause-within
unfolding ended steps_of
returns-clause-within g c = λ none P n s h x t d.
    let old = c.args.self.now in
    later_begins P n old s x t d (λ y. c.go_on-2.new.self.machine.counts.steps ≤ old.machine.counts.steps + y.steps) none (omega arith) (omega arith) (omega arith)
    (λ k z it st. let l = c.in_ok-event-2.ensures.within k z it st in omega (arith, l)) h
