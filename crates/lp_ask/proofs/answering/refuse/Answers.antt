use Rattle.std.proofs.Common.{subst}
use Rattle.lp_ask.specs.Allowed.{PutsLine}
use Rattle.lp_ask.proofs.Coming.{put_refused}
use Rattle.lp_ask.proofs.answering.refuse.Goals as goal

pub query_refused-requires : goal.query_refused-requires
query_refused-requires g c = c.cause_of.ensures c.args.query.now c.requires

pub returns-in-Line-clause-put : goal.returns-in-Line-clause-put
returns-in-Line-clause-put g c =
    let old = g.K.Sink.written c.args.out.now in
    let new = g.K.Sink.written c.put_line.new.out in
    put_refused c.args.query.now old new c.put_line.result c.in-Line.field-0 c.in-Line.line c.in-Line.ensures.refusal c.in-Line.ensures.placed
    (subst (λ l. PutsLine l old new c.put_line.result) c.as_slice.ensures.value c.put_line.ensures.put)
