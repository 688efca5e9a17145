use Rattle.std.proofs.Common.{refl, true, false}
use Rattle.lp_plain.specs.Held.{constants_of, ended, steps_of}
use Rattle.lp_plain.proofs.Between.{failed_between, is_over_still, over_told}
use Rattle.lp_plain.proofs.HeardParts.{part_none}
use Rattle.std.proofs.Common.{arith}
use Rattle.lp_plain.proofs.search.Search.next.Goals as goal

pub returns-in-Some-clause-search : goal.returns-in-Some-clause-search
unfolding ended
returns-in-Some-clause-search g c = λ P n s h en x t d.
    let r = is_over_still P n c.args.self.now s c.in-Some.ending c.in-Some.is h x t d in
    (over_told x _ c.in-Some.ending r.0 refl, r.1)

pub returns-clause-search : goal.returns-clause-search
unfolding ended
returns-clause-search g c = λ P n s h en x t d.
    let r = c.in_ok-event.ensures.search c.in_default.is P n s (failed_between P n c.args.self.now true s h) en x t d in
    (r.0, failed_between P n c.advance.new.self false t r.1)

pub returns-in-Some-clause-steps : goal.returns-in-Some-clause-steps
unfolding ended
returns-in-Some-clause-steps g c = λ none P n s h en x t d. let y = c.in-Some.is in absurd (cc)

pub returns-clause-steps : goal.returns-clause-steps
unfolding ended constants_of steps_of
returns-clause-steps g c = λ none P n s h en x t d. (c.in_ok-event.ensures.search c.in_default.is P n s (failed_between P n c.args.self.now true s h) en x t d).2.0

pub returns-in-Some-clause-notes : goal.returns-in-Some-clause-notes
unfolding ended
returns-in-Some-clause-notes g c = λ none P n s h en x t d. let y = c.in-Some.is in absurd (cc)

pub returns-clause-notes : goal.returns-clause-notes
unfolding ended constants_of steps_of
returns-clause-notes g c = λ none P n s h en x t d. (c.in_ok-event.ensures.search c.in_default.is P n s (failed_between P n c.args.self.now true s h) en x t d).2.1

pub returns-then-self-clause-begins : goal.returns-then-self-clause-begins
unfolding ended constants_of
returns-then-self-clause-begins g c = λ P n s h x t d. part_none c.args.self.now.constants.items _ _ _ refl

pub returns-in-Some-clause-begins : goal.returns-in-Some-clause-begins
unfolding ended constants_of
returns-in-Some-clause-begins g c = λ P n s h x t d. part_none c.args.self.now.constants.items _ _ _ refl

pub returns-in_err-event-clause-begins : goal.returns-in_err-event-clause-begins
unfolding ended constants_of
returns-in_err-event-clause-begins g c = λ P n s h. c.advance.ensures.begins c.in_default.is P n s (failed_between P n c.args.self.now true s h)

pub returns-clause-begins : goal.returns-clause-begins
unfolding ended constants_of
returns-clause-begins g c = λ P n s h. c.advance.ensures.begins c.in_default.is P n s (failed_between P n c.args.self.now true s h)

pub returns-in-Some-clause-within : goal.returns-in-Some-clause-within
unfolding ended steps_of
returns-in-Some-clause-within g c = λ P n s h x t d. omega arith

pub returns-clause-within : goal.returns-clause-within
unfolding ended steps_of
returns-clause-within g c = λ P n s h. c.in_ok-event.ensures.within c.in_default.is P n s (failed_between P n c.args.self.now true s h)
