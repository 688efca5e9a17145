use Rattle.std.proofs.Common.{ap, refl, sym, ◌∙◌}
use Rattle.lp_session.specs.Form.{form_of}
use Rattle.lp_session.specs.Said.{unexpected_line}
use Rattle.lp_session.specs.Served.{Replied}
use Rattle.lp_session.proofs.Replying.{by_error, broken_before, unfit_said}
use Rattle.lp_session.proofs.serving.reply.Goals as goal

pub returns-in_err-text-in-Unfit-clause-replied : goal.returns-in_err-text-in-Unfit-clause-replied
returns-in_err-text-in-Unfit-clause-replied g c =
    let M = g.R.Replies.meaning c.args.replies.now in
    let o = g.K.Sink.written c.args.out.now in
    by_error c.from_residual.result _ (Replied M c.args.line.now o o) c.from_residual.ensures.1 (broken_before M c.args.line.now o o refl)

pub returns-clause-replied : goal.returns-clause-replied
returns-clause-replied g c =
    let M = g.R.Replies.meaning c.args.replies.now in
    let line = c.args.line.now in
    unfit_said M line c.in-Unfit.at c.in-Ok.tokens.items
    (record { read = c.in-Ok.ensures; form_is = ap (form_of line) (sym c.as_slice.ensures.value) ∙ (sym c.form_of.ensures.form ∙ c.in-Unfit.is) })
    (g.K.Sink.written c.args.out.now) (g.K.Sink.written c.put_refusal.new.out) c.as_slice-in-Unfit.result.now
    (c.as_slice-in-Unfit.ensures.value ∙ (c.in_ok-text-in-Unfit.ensures ∙ ap unexpected_line c.column_at.ensures)) c.put_refusal.result c.put_refusal.ensures.said
