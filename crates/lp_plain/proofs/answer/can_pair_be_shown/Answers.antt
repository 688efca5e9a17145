use Rattle.lp_plain.proofs.answer.can_pair_be_shown.Goals as goal

pub returns-then-not-left-clause-shown : goal.returns-then-not-left-clause-shown
returns-then-not-left-clause-shown c = λ e. absurd (cc)

pub returns-then-not-left-clause-hidden : goal.returns-then-not-left-clause-hidden
returns-then-not-left-clause-hidden c = λ e h. c.in_ok-left.ensures.hidden c.if-not-left.true h.0

pub returns-clause-shown : goal.returns-clause-shown
returns-clause-shown c = λ e. (c.in_ok-left.ensures.shown c.if-not-left.false, c.in_ok-right.ensures.shown e)

pub returns-clause-hidden : goal.returns-clause-hidden
returns-clause-hidden c = λ e h. c.in_ok-right.ensures.hidden e h.1
