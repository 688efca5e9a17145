use Rattle.std.proofs.Common.{◌+◌, Err, refl, sym, subst, ◌∙◌}
use Rattle.lp_session.specs.Served.{Turned}
use Rattle.lp_session.proofs.Sessions.{turn_blank, turn_cut, turn_replied, turn_broken, turn_error}
use Rattle.lp_session.proofs.serving.turn.Goals as goal

pub returns-then-is_blank-clause-turned : goal.returns-then-is_blank-clause-turned
returns-then-is_blank-clause-turned g c =
    turn_blank (g.R.Replies.meaning c.args.replies.now) c.args.line.now c.args.summary.now (g.K.Sink.written c.args.out.now) (sym c.is_blank.ensures ∙ c.if-is_blank.true) c.requires.answers

pub returns-in_err-put-clause-turned : goal.returns-in_err-put-clause-turned
returns-in_err-put-clause-turned g c =
    let M = g.R.Replies.meaning c.args.replies.now in
    let s = c.args.summary.now in
    let old = g.K.Sink.written c.args.out.now in
    let new = g.K.Sink.written c.put.new.out in
    turn_error M c.args.line.now s s old new c.from_residual-in_err-put.result c.in_err-put.field-0.0 c.from_residual-in_err-put.ensures.1
    (subst (λ y. Turned M c.args.line.now s s old new (Err y)) (sym c.in_err-put.ensures.prefix.0)
    (turn_cut M c.args.line.now s s old new new c.as_slice.result.now (sym c.is_blank.ensures ∙ c.if-is_blank.false) (c.as_slice.ensures.value ∙ c.in_ok-text.ensures) c.in_err-put.ensures.prefix.1))

pub returns-in_err-answers-clause-turned : goal.returns-in_err-answers-clause-turned
returns-in_err-answers-clause-turned g c =
    let M = g.R.Replies.meaning c.args.replies.now in
    let s = c.args.summary.now in
    let old = g.K.Sink.written c.args.out.now in
    let mid = g.K.Sink.written c.put.new.out in
    let new = g.K.Sink.written c.reply.new.out in
    turn_error M c.args.line.now s s old new c.from_residual-in_err-answers.result c.in_err-answers.field-0.0 c.from_residual-in_err-answers.ensures.1
    (turn_broken M c.args.line.now s s old mid new c.as_slice.result.now (sym c.is_blank.ensures ∙ c.if-is_blank.false) (c.as_slice.ensures.value ∙ c.in_ok-text.ensures)
    c.in_err-answers.field-0.0 c.in_ok-put.ensures.appended c.in_err-answers.ensures.replied)

pub returns-clause-turned : goal.returns-clause-turned
returns-clause-turned g c =
    let M = g.R.Replies.meaning c.args.replies.now in
    let s = c.args.summary.now in
    let old = g.K.Sink.written c.args.out.now in
    let mid = g.K.Sink.written c.put.new.out in
    let new = g.K.Sink.written c.reply.new.out in
    turn_replied M c.args.line.now s (record { queries = s.queries + 1; answers = c.saturating_add-summary.result }) old mid new c.as_slice.result.now (sym c.is_blank.ensures ∙ c.if-is_blank.false)
    (c.as_slice.ensures.value ∙ c.in_ok-text.ensures) c.in_ok-answers.answers c.in_ok-put.ensures.appended c.in_ok-answers.ensures.replied refl c.saturating_add-summary.ensures
