use Rattle.std.proofs.Common.{◌≡◌, ◌+◌, ◌^◌, ◌<◌, ◌≤◌, suc, length}
use Rattle.lp_session.specs.Lines.{lines_behind, left}
use Rattle.lp_session.proofs.Sessions.{Halfway}
use Rattle.lp_session.proofs.serving.serve.Given as goal

abbrev pub invariant-lines : goal.invariant-lines
invariant-lines g l = record {
  half : Halfway (g.R.Replies.meaning l.fn.replies) (g.R.Replies.meaning l.replies) l.lines (lines_behind l.rest) l.summary (g.K.Sink.written l.fn.out) (g.K.Sink.written l.out);
  queries : l.summary.queries + left l.rest ≤ suc (length l.lines);
  answers : l.summary.answers < 2 ^ 64;
  faults : g.K.Sink.faults l.out ≡ g.K.Sink.faults l.fn.out;
}

abbrev pub decreases-lines : goal.decreases-lines
decreases-lines g l = left l.rest
