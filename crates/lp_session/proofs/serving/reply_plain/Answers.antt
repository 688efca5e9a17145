use Rattle.std.proofs.Common.{None, Err, subst, sym}
use Rattle.lp_session.specs.Served.{Replied}
use Rattle.lp_session.proofs.Replying.{line_replied, line_broken, as_plain}
use Rattle.lp_session.proofs.serving.reply_plain.Goals as goal

pub returns-in-Ok-Written-clause-replied : goal.returns-in-Ok-Written-clause-replied
returns-in-Ok-Written-clause-replied g c =
    let M = g.R.Replies.meaning c.args.replies.now in
    line_replied M c.args.line.now c.args.line.now None (as_plain M c.args.line.now c.requires) (g.K.Sink.written c.args.out.now) (g.K.Sink.written c.reply.new.out) c.in-Ok-Written.answers (rw c.in-Ok-Written.field-0-is at c.in-Ok-Written.ensures.replied)

pub returns-in-Err-clause-replied : goal.returns-in-Err-clause-replied
returns-in-Err-clause-replied g c =
    let M = g.R.Replies.meaning c.args.replies.now in
    subst (λ e. Replied M c.args.line.now (g.K.Sink.written c.args.out.now) (g.K.Sink.written c.reply.new.out) (Err e)) (sym c.refused.ensures)
    (line_broken M c.args.line.now c.args.line.now None (as_plain M c.args.line.now c.requires) (g.K.Sink.written c.args.out.now) (g.K.Sink.written c.reply.new.out) c.in-Err.refusal c.in-Err.ensures.broken)
