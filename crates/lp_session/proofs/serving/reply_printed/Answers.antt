use Rattle.std.proofs.Common.{map, Some, Err, ap, refl, sym, subst, ◌∙◌}
use Rattle.std.proofs.lemmas.Option.{slice_get-get_or}
use Rattle.lp_session.specs.Said.{undeclared_line}
use Rattle.lp_session.specs.Served.{names_at, column_at, Replied}
use Rattle.lp_session.proofs.Forms.{past_end, token_at}
use Rattle.lp_session.proofs.Replying.{by_error, line_replied, line_broken, as_printed, broken_before, missed_there, missed_said}
use Rattle.lp_session.proofs.serving.reply_printed.Goals as goal

pub returns-in_err-query-clause-replied : goal.returns-in_err-query-clause-replied
returns-in_err-query-clause-replied g c =
    let M = g.R.Replies.meaning c.args.replies.now in
    let o = g.K.Sink.written c.args.out.now in
    by_error c.from_residual-in_err-query.result _ (Replied M c.args.line.now o o) c.from_residual-in_err-query.ensures.1 (broken_before M c.args.line.now o o refl)

pub bounds-names-number : goal.bounds-names-number
bounds-names-number g c =
    missed_there (g.R.Replies.meaning c.args.replies.now) c.args.line.now c.args.dot c.args.to c.args.tokens.now c.requires.form c.as_slice.result.now _
    (c.as_slice.ensures.value ∙ c.in_ok-query.ensures) (ap (λ z. Some (map (λ n. n.items) z)) c.as_slice-2.ensures.value ∙ ap Some c.in_ok-shown.ensures)
    (g.K.Sink.written c.args.out.now) (g.K.Sink.written c.reply.new.out) c.in-Ok-NotThere.number (rw c.in-Ok-NotThere.field-0-is at c.in-Ok-NotThere.ensures.replied)

pub returns-in-Ok-Written-clause-replied : goal.returns-in-Ok-Written-clause-replied
returns-in-Ok-Written-clause-replied g c =
    let M = g.R.Replies.meaning c.args.replies.now in
    let qe = c.as_slice.ensures.value ∙ c.in_ok-query.ensures in
    let se = ap (λ z. Some (map (λ n. n.items) z)) c.as_slice-2.ensures.value ∙ ap Some c.in_ok-shown.ensures in
    line_replied M c.args.line.now c.as_slice.result.now _ (as_printed M c.args.line.now c.args.dot c.args.to c.args.tokens.now c.requires.form c.as_slice.result.now _ qe se)
    (g.K.Sink.written c.args.out.now) (g.K.Sink.written c.reply.new.out) c.in-Ok-Written.answers (rw c.in-Ok-Written.field-0-is at c.in-Ok-Written.ensures.replied)

pub returns-in-Ok-NotThere-clause-replied : goal.returns-in-Ok-NotThere-clause-replied
returns-in-Ok-NotThere-clause-replied g c =
    let M = g.R.Replies.meaning c.args.replies.now in
    let line = c.args.line.now in
    let names = names_at c.args.dot c.args.tokens.now in
    let t = token_at names c.in-Ok-NotThere.number in
    let qe = c.as_slice.ensures.value ∙ c.in_ok-query.ensures in
    let se = ap (λ z. Some (map (λ n. n.items) z)) c.as_slice-2.ensures.value ∙ ap Some c.in_ok-shown.ensures in
    let m = rw c.in-Ok-NotThere.field-0-is at c.in-Ok-NotThere.ensures.replied in
    missed_said M line c.args.dot c.args.to c.args.tokens.now c.requires.form c.as_slice.result.now _ qe se
    (g.K.Sink.written c.args.out.now) (g.K.Sink.written c.reply.new.out) (g.K.Sink.written c.put_refusal.new.out) c.in-Ok-NotThere.number t c.as_slice-in-Ok-NotThere.result.now c.put_refusal.result m
    (slice_get-get_or names c.in-Ok-NotThere.number past_end (missed_there M line c.args.dot c.args.to c.args.tokens.now c.requires.form c.as_slice.result.now _ qe se
    (g.K.Sink.written c.args.out.now) (g.K.Sink.written c.reply.new.out) c.in-Ok-NotThere.number m))
    (c.as_slice-in-Ok-NotThere.ensures.value ∙ (c.in_ok-text-in-Ok-NotThere.ensures ∙ (ap (λ k. undeclared_line k c.piece.result.now) c.column_at.ensures ∙ ap (undeclared_line (column_at line t.from)) c.piece.ensures)))
    c.put_refusal.ensures.said

pub returns-clause-replied : goal.returns-clause-replied
returns-clause-replied g c =
    let M = g.R.Replies.meaning c.args.replies.now in
    let qe = c.as_slice.ensures.value ∙ c.in_ok-query.ensures in
    let se = ap (λ z. Some (map (λ n. n.items) z)) c.as_slice-2.ensures.value ∙ ap Some c.in_ok-shown.ensures in
    subst (λ e. Replied M c.args.line.now (g.K.Sink.written c.args.out.now) (g.K.Sink.written c.reply.new.out) (Err e)) (sym c.refused.ensures)
    (line_broken M c.args.line.now c.as_slice.result.now _ (as_printed M c.args.line.now c.args.dot c.args.to c.args.tokens.now c.requires.form c.as_slice.result.now _ qe se)
    (g.K.Sink.written c.args.out.now) (g.K.Sink.written c.reply.new.out) c.in-Err.refusal c.in-Err.ensures.broken)
