use Rattle.lp_lines.proofs.Appending.{grows_both}
use Rattle.lp_lines.proofs.Statuses.{memory_of_search}
use Rattle.lp_ask.proofs.Ending.{served_grows, ends_search, ends_counts}
use Rattle.lp_ask.proofs.serving.reply.Goals as goal

pub returns-in-Err-clause-of_search : goal.returns-in-Err-clause-of_search
returns-in-Err-clause-of_search g c = memory_of_search c.say_memory.result c.say_memory.ensures.said

pub returns-clause-grows : goal.returns-clause-grows
returns-clause-grows g c =
    grows_both (g.K.Sink.written c.args.out.now) (g.K.Sink.written c.serve-told.new.out) (g.K.Sink.written c.end_of.new.out)
    (served_grows _ _ (g.K.Sink.written c.args.out.now) (g.K.Sink.written c.serve-told.new.out) c.serve-told.result c.serve-told.ensures.served c.serve-told.ensures.refused) c.end_of.ensures.grows

pub returns-clause-of_search : goal.returns-clause-of_search
returns-clause-of_search g c = ends_search c.serve-told.result (g.K.Sink.faults c.serve-told.new.out) (g.K.Sink.faults c.end_of.new.out) c.end_of.result c.end_of.ensures.ends

pub returns-clause-write_faults : goal.returns-clause-write_faults
returns-clause-write_faults g c = ends_counts c.serve-told.result (g.K.Sink.faults c.args.out.now) (g.K.Sink.faults c.serve-told.new.out) (g.K.Sink.faults c.end_of.new.out) c.end_of.result c.serve-told.ensures.faults c.end_of.ensures.ends
