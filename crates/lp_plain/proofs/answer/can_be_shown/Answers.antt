use Rattle.std.proofs.Common.{arith}
use Rattle.lp_plain.proofs.answer.can_be_shown.Goals as goal

pub returns-then-id-term_count-clause-shown : goal.returns-then-id-term_count-clause-shown
returns-then-id-term_count-clause-shown c = λ e. absurd (cc)

pub returns-then-id-term_count-clause-hidden : goal.returns-then-id-term_count-clause-hidden
returns-then-id-term_count-clause-hidden c = λ e h. let l = h.0 in omega (arith, l, c.if-id-term_count.true, c.term_count.ensures.count)

pub returns-clause-shown : goal.returns-clause-shown
returns-clause-shown c = λ e. (omega (arith, c.if-id-term_count.false, c.term_count.ensures.count), c.in_ok-small.ensures.small e)

pub returns-clause-hidden : goal.returns-clause-hidden
returns-clause-hidden c = λ e h. c.in_ok-small.ensures.large e h.1
