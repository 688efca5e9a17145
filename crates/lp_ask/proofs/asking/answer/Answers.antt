use Rattle.lp_lines.proofs.Statuses.{memory_of_search}
use Rattle.lp_model.specs.declared.ending.Ending.{Ending}
use Rattle.lp_ask.proofs.Coming.{refused_still}
use Rattle.lp_ask.proofs.Grown.{same_grows, answered_grows, write_grows, memory_grows, status_counts, write_counts, memory_counts, text_counts, ending_search, ending_no_fault}
use Rattle.lp_ask.proofs.asking.answer.Goals as goal

pub returns-in-Ok-clause-grows : goal.returns-in-Ok-clause-grows
returns-in-Ok-clause-grows g c =
    let a = c.in-Ok.ensures.written in answered_grows a.0 a.1.0 _ _ _ _ a.1.1.0 a.1.1.1

pub returns-in-Ok-clause-ended : goal.returns-in-Ok-clause-ended
returns-in-Ok-clause-ended g c =
    ending_search c.in-Ok.ending c.status.result c.status.ensures

pub returns-in-Ok-clause-write_faults : goal.returns-in-Ok-clause-write_faults
returns-in-Ok-clause-write_faults g c =
    status_counts Ending c.in-Ok.ending c.status.result (g.K.Sink.faults c.args.out.now) (g.K.Sink.faults c.ask.new.out) (ending_no_fault c.in-Ok.ending c.status.result c.status.ensures) c.in-Ok.ensures.faults

pub returns-in-Write-clause-grows : goal.returns-in-Write-clause-grows
returns-in-Write-clause-grows g c =
    let b = c.in-Err.ensures.broke in write_grows b.0 b.1.0 _ _ (g.K.Sink.written c.args.out.now) (g.K.Sink.written c.ask.new.out) c.in-Err.refusal c.in-Write.ensures b.1.1

pub returns-in-Write-clause-write_faults : goal.returns-in-Write-clause-write_faults
returns-in-Write-clause-write_faults g c =
    write_counts Ending c.in-Err.refusal (g.K.Sink.faults c.args.out.now) (g.K.Sink.faults c.ask.new.out) c.in-Write.ensures c.in-Err.ensures.faults

pub returns-in-Memory-clause-grows : goal.returns-in-Memory-clause-grows
returns-in-Memory-clause-grows g c =
    let b = c.in-Err.ensures.broke in memory_grows b.0 b.1.0 _ _ (g.K.Sink.written c.args.out.now) (g.K.Sink.written c.ask.new.out) c.in-Err.refusal _ c.in-Memory.ensures b.1.1 c.say_memory.ensures.grows

pub returns-in-Memory-clause-ended : goal.returns-in-Memory-clause-ended
returns-in-Memory-clause-ended g c =
    memory_of_search c.say_memory.result c.say_memory.ensures.said

pub returns-in-Memory-clause-write_faults : goal.returns-in-Memory-clause-write_faults
returns-in-Memory-clause-write_faults g c =
    memory_counts Ending c.in-Err.refusal _ (g.K.Sink.faults c.args.out.now) (g.K.Sink.faults c.ask.new.out) (g.K.Sink.faults c.say_memory.new.out) c.in-Memory.ensures c.in-Err.ensures.faults c.say_memory.ensures.write_faults

pub query_refused-requires : goal.query_refused-requires
query_refused-requires g c =
    c.cause_of.ensures _ c.in-Err.ensures.refused

pub returns-in-Text-clause-grows : goal.returns-in-Text-clause-grows
returns-in-Text-clause-grows g c =
    let b = c.in-Err.ensures.broke in same_grows (g.K.Sink.written c.args.out.now) (g.K.Sink.written c.ask.new.out) (refused_still b.0 b.1.0 _ _ (g.K.Sink.written c.args.out.now) (g.K.Sink.written c.ask.new.out) c.in-Err.refusal c.in-Text.ensures b.1.1)

pub returns-in-Text-clause-unwritten : goal.returns-in-Text-clause-unwritten
returns-in-Text-clause-unwritten g c =
    let b = c.in-Err.ensures.broke in record {
      same = refused_still b.0 b.1.0 _ _ (g.K.Sink.written c.args.out.now) (g.K.Sink.written c.ask.new.out)
          c.in-Err.refusal c.in-Text.ensures b.1.1;
      sound = text_counts Ending c.in-Err.refusal (g.K.Sink.faults c.args.out.now)
          (g.K.Sink.faults c.ask.new.out) c.in-Text.ensures c.in-Err.ensures.faults;
    }
