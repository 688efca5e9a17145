use Rattle.std.proofs.Common.{sym, ◌∙◌, subst as transport}
use Rattle.lp_pattern.specs.Ruling.{IsRuledOut}
use Rattle.lp_pattern.proofs.Results.{if_ok, if_err}
use Rattle.lp_pattern.specs.Ruling.{IsJudged}
use Rattle.lp_pattern.proofs.Judging.{five}
use Rattle.lp_pattern.proofs.rules.by_variables.Goals as goal

pub on_one_variable-requires-clause-same : goal.on_one_variable-requires-clause-same
on_one_variable-requires-clause-same c = sym c.have_same_variable.ensures ∙ c.if-have_same_variable.true

pub returns-clause-judged : goal.returns-clause-judged
returns-clause-judged c =
    if_ok c.by_pattern.result _ _
    (λ done f r i g n p h. transport (IsJudged done c.args.units.now c.by_pattern.new.units)
    (sym (five n c.args.next.now p c.args.bank.now r c.args.one.now.head c.args.other.now.head c.args.one.now.top c.args.other.now.top
    c.args.one.now.arguments.items c.args.other.now.arguments.items c.requires.flexible
    (sym c.have_same_variable.ensures ∙ c.if-have_same_variable.false))) (f r i g n p h))
    c.by_pattern.ensures.judged

pub returns-clause-refused : goal.returns-clause-refused
returns-clause-refused c =
    if_err c.by_pattern.result _ _
    (λ e f r o levels n p h known. transport (IsRuledOut n e c.args.units.now) (sym (five n c.args.next.now p c.args.bank.now r c.args.one.now.head c.args.other.now.head c.args.one.now.top c.args.other.now.top c.args.one.now.arguments.items c.args.other.now.arguments.items c.requires.flexible
    (sym c.have_same_variable.ensures ∙ c.if-have_same_variable.false))) (f r o levels n p h known))
    c.by_pattern.ensures.refused

pub returns-clause-done : goal.returns-clause-done
returns-clause-done c =
    if_ok c.by_pattern.result _ _
    (λ done f r o levels n p h w t q.
    f r o levels n p h w t (sym (five n c.args.next.now p c.args.bank.now r c.args.one.now.head c.args.other.now.head c.args.one.now.top c.args.other.now.top c.args.one.now.arguments.items c.args.other.now.arguments.items c.requires.flexible
    (sym c.have_same_variable.ensures ∙ c.if-have_same_variable.false)) ∙ q))
    c.by_pattern.ensures.done
