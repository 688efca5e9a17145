use Rattle.std.proofs.Common.{sym, ◌∙◌}
use Rattle.lp_session.proofs.Forms.{some_token, no_token, no_print, a_print, a_name, a_dot, no_dot, no_end}
use Rattle.lp_session.proofs.form.form_of.Goals as goal

pub returns-then-is_empty-clause-form : goal.returns-then-is_empty-clause-form
returns-then-is_empty-clause-form c = no_token c.args.line.now c.args.tokens.now (sym c.is_empty.ensures ∙ c.if-is_empty.true)

pub returns-then-not-is_print-clause-form : goal.returns-then-not-is_print-clause-form
returns-then-not-is_print-clause-form c = no_print c.args.line.now c.args.tokens.now (some_token c.args.tokens.now (sym c.is_empty.ensures ∙ c.if-is_empty.false)) (sym c.is_print.ensures ∙ c.if-not-is_print.true)

pub names-init : goal.names-init
names-init c = a_print c.args.line.now c.args.tokens.now (some_token c.args.tokens.now (sym c.is_empty.ensures ∙ c.if-is_empty.false)) (sym c.is_print.ensures ∙ c.if-not-is_print.false)

pub names-preserved : goal.names-preserved
names-preserved c = a_name c.args.line.now c.args.tokens.now c.names.at c.names-test.true c.names.invariant (sym c.is_shown.ensures ∙ c.if-is_shown.true)

pub returns-then-is_end-clause-form : goal.returns-then-is_end-clause-form
returns-then-is_end-clause-form c = a_dot c.args.line.now c.args.tokens.now c.names.at c.names-test.true c.names.invariant (sym c.is_shown.ensures ∙ c.if-is_shown.false) (sym c.is_end.ensures ∙ c.if-is_end.true)

pub returns-in-names-clause-form : goal.returns-in-names-clause-form
returns-in-names-clause-form c = no_dot c.args.line.now c.args.tokens.now c.names.at c.names-test.true c.names.invariant (sym c.is_shown.ensures ∙ c.if-is_shown.false) (sym c.is_end.ensures ∙ c.if-is_end.false)

pub returns-clause-form : goal.returns-clause-form
returns-clause-form c = no_end c.args.line.now c.args.tokens.now c.names.at c.names-test.false c.names.invariant
