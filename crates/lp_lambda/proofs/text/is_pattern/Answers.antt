use Rattle.lp_term.specs.Nodes.{tree}
use Rattle.lp_lambda.proofs.Judging.{by_form, one_left, first_task}
use Rattle.lp_lambda.proofs.text.is_pattern.Goals as goal

pub walk_on-requires : goal.walk_on-requires
walk_on-requires c = first_task c.form_of.new.bank c.in_ok-walk.walk c.args.position c.in_ok-form.form c.in_ok-walk.ensures.work c.in_ok-form.ensures.within

pub returns-clause-judged : goal.returns-clause-judged
returns-clause-judged c =
    let b = c.args.bank.now in
    let d = c.form_of.new.bank in
    by_form c.args.position (tree b c.args.formula.0) (tree d c.in_ok-form.form.0) c.in_ok-judged.judged c.in_ok-form.ensures.form
    (one_left d c.in_ok-walk.walk c.args.position c.in_ok-form.form c.in_ok-judged.judged c.in_ok-walk.ensures.scope c.in_ok-walk.ensures.work c.in_ok-judged.ensures.judged)
