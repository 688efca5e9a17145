use Rattle.std.proofs.Common.{None, false}
use Rattle.lp_query.specs.Outcomes.{entries_in, reader}
use Rattle.lp_ask.proofs.Coming.{all_answered, write_comes, memory_comes, put_comes, refused_still, still_faults}
use Rattle.lp_ask.proofs.answering.Answering.reply_all.Goals as goal

pub returns-in-Ok-clause-comes : goal.returns-in-Ok-clause-comes
returns-in-Ok-clause-comes g c =
    let w = c.in-Ok.ensures.written in
    all_answered (entries_in c.args.self.now.asker) (reader c.args.self.now.asker) c.args.query.now None c.args.self.now.answers w.0 w.1.0 (g.K.Sink.written c.args.out.now) (g.K.Sink.written c.ask.new.out) c.in-Ok.written w.1.1

pub returns-in-Write-clause-comes : goal.returns-in-Write-clause-comes
returns-in-Write-clause-comes g c =
    let b = c.in-Err.ensures.broke in
    write_comes (entries_in c.args.self.now.asker) (reader c.args.self.now.asker) c.args.query.now None c.args.self.now.answers b.0 (g.K.Sink.written c.args.out.now) (g.K.Sink.written c.ask.new.out) c.in-Err.refusal c.in-Write.ensures b.1.0 b.1.1

pub returns-in-Memory-clause-comes : goal.returns-in-Memory-clause-comes
returns-in-Memory-clause-comes g c =
    let b = c.in-Err.ensures.broke in
    memory_comes (entries_in c.args.self.now.asker) (reader c.args.self.now.asker) c.args.query.now None c.args.self.now.answers b.0 (g.K.Sink.written c.args.out.now) (g.K.Sink.written c.ask.new.out) c.in-Err.refusal c.in-Memory.ensures b.1.0 b.1.1

pub returns-in-Text-clause-comes : goal.returns-in-Text-clause-comes
returns-in-Text-clause-comes g c =
    let b = c.in-Err.ensures.broke in
    put_comes (entries_in c.args.self.now.asker) (reader c.args.self.now.asker) c.args.query.now None c.args.self.now.answers (g.K.Sink.written c.args.out.now) (g.K.Sink.written c.ask.new.out) (g.K.Sink.written c.refuse.new.out) c.refuse.result
    (refused_still (entries_in c.args.self.now.asker) b.0 false c.args.self.now.answers (g.K.Sink.written c.args.out.now) (g.K.Sink.written c.ask.new.out) c.in-Err.refusal c.in-Text.ensures b.1.1) c.refuse.ensures.put

pub returns-in-Text-clause-faults : goal.returns-in-Text-clause-faults
returns-in-Text-clause-faults g c =
    still_faults c.in-Err.refusal _ (g.K.Sink.faults c.args.out.now) (g.K.Sink.faults c.ask.new.out) (g.K.Sink.faults c.refuse.new.out) c.in-Text.ensures c.in-Err.ensures.faults c.refuse.ensures.faults
