use Rattle.std.proofs.Common.{◌≡◌, suc, length, ap, refl, sym, subst, ◌∙◌, arith}
use Rattle.lp_lemmas.proofs.Results.{passed_up}
use Rattle.lp_session.specs.Lines.{lines_behind, left}
use Rattle.lp_session.specs.Served.{IsBrokenOff}
use Rattle.lp_session.proofs.Appending.{same_count}
use Rattle.lp_session.proofs.Sessions.{at_first, one_line, broken_off, summary_cut, summary_memory}
use Rattle.lp_session.proofs.serving.serve.Goals as goal

pub lines-init : goal.lines-init
lines-init g c = record {
  half = at_first (g.R.Replies.meaning c.args.replies.now) c.args.lines.now (g.K.Sink.written c.args.out.now);
  queries = omega arith;
  answers = omega arith;
  faults = refl;
}

pub returns-in_err-turn-clause-refused : goal.returns-in_err-turn-clause-refused
returns-in_err-turn-clause-refused g c =
    let M = g.R.Replies.meaning c.args.replies.now in
    let old = g.K.Sink.written c.args.out.now in
    passed_up c.from_residual.result c.in_err-turn.field-0.0 (IsBrokenOff M c.args.lines.now old (g.K.Sink.written c.turn.new.out)) c.from_residual.ensures.1
    (broken_off M (g.R.Replies.meaning c.lines.replies) c.args.lines.now (lines_behind c.lines.rest) c.lines.summary old (g.K.Sink.written c.lines.out) c.lines.invariant.half
    c.first_line.result.0.now (lines_behind c.first_line.result.1) (ap lines_behind c.in-Some.is ∙ c.first_line.ensures.lines) (g.K.Sink.written c.turn.new.out) c.turn.new.summary c.in_err-turn.field-0.0 c.in_err-turn.ensures.turned)

pub lines-preserved : goal.lines-preserved
lines-preserved g c =
    let q = c.turn.ensures.queries in
    let l = c.first_line.ensures.left in
    let w : left c.lines.rest ≡ suc (length c.in-Some.text.now) = ap left c.in-Some.is in
    let i = c.lines.invariant.queries in
    record {
      half = one_line (g.R.Replies.meaning c.args.replies.now) (g.R.Replies.meaning c.lines.replies) c.args.lines.now (lines_behind c.lines.rest) c.lines.summary
          (g.K.Sink.written c.args.out.now) (g.K.Sink.written c.lines.out) c.lines.invariant.half c.first_line.result.0.now (lines_behind c.first_line.result.1) (ap lines_behind c.in-Some.is ∙ c.first_line.ensures.lines)
          (g.K.Sink.written c.turn.new.out) c.turn.new.summary (g.R.Replies.meaning c.turn.new.replies) c.in_ok-turn.ensures.turned c.turn.ensures.same;
      queries = omega (arith, q, l, w, i);
      answers = c.turn.ensures.answers;
      faults = same_count _ (g.K.Sink.faults c.lines.out) (g.K.Sink.faults c.turn.new.out) c.in_ok-turn.ensures.faults (λ e. cc) ∙ c.lines.invariant.faults;
    }

pub returns-in_err-text-clause-refused : goal.returns-in_err-text-clause-refused
returns-in_err-text-clause-refused g c =
    let M = g.R.Replies.meaning c.args.replies.now in
    let old = g.K.Sink.written c.args.out.now in
    passed_up c.from_residual-in_err-text.result _ (IsBrokenOff M c.args.lines.now old (g.K.Sink.written c.lines.out)) c.from_residual-in_err-text.ensures.1
    (summary_memory M (g.R.Replies.meaning c.lines.replies) c.args.lines.now (lines_behind c.lines.rest) c.lines.summary old (g.K.Sink.written c.lines.out) c.lines.invariant.half
    (ap lines_behind c.in_default.is))

pub returns-in_err-put-clause-refused : goal.returns-in_err-put-clause-refused
returns-in_err-put-clause-refused g c =
    let M = g.R.Replies.meaning c.args.replies.now in
    let old = g.K.Sink.written c.args.out.now in
    let new = g.K.Sink.written c.put.new.out in
    passed_up c.from_residual-in_err-put.result c.in_err-put.field-0.0 (IsBrokenOff M c.args.lines.now old new) c.from_residual-in_err-put.ensures.1
    (subst (IsBrokenOff M c.args.lines.now old new) (sym c.in_err-put.ensures.prefix.0)
    (summary_cut M (g.R.Replies.meaning c.lines.replies) c.args.lines.now (lines_behind c.lines.rest) c.lines.summary old (g.K.Sink.written c.lines.out) c.lines.invariant.half
    (ap lines_behind c.in_default.is) new c.as_slice.result.now (c.as_slice.ensures.value ∙ c.in_ok-text.ensures) c.in_err-put.ensures.prefix.1))
