use Rattle.std.proofs.Common.{map, Some, false, refl, subst}
use Rattle.lp_query.specs.Outcomes.{entries_in, reader, Broke}
use Rattle.lp_ask.specs.Allowed.{meaning_of}
use Rattle.lp_ask.proofs.Coming.{all_answered, write_comes, memory_comes, put_comes, of_these, refused_still, still_faults, missing_of, missing_comes, asked_text}
use Rattle.lp_ask.proofs.answering.Answering.reply_some.Goals as goal

pub returns-in-Ok-clause-comes : goal.returns-in-Ok-clause-comes
returns-in-Ok-clause-comes g c =
    all_answered (entries_in c.args.self.now.asker) (reader c.args.self.now.asker) c.args.query.now (Some (map (λ n. n.items) c.args.names.now))
    c.args.self.now.answers (map (λ n. n.items) c.args.names.now) (refl, c.in-Ok.ensures.there) (g.K.Sink.written c.args.out.now)
    (g.K.Sink.written c.ask_shown.new.out) c.in-Ok.written c.in-Ok.ensures.written

pub returns-in-Write-clause-comes : goal.returns-in-Write-clause-comes
returns-in-Write-clause-comes g c =
    write_comes (entries_in c.args.self.now.asker) (reader c.args.self.now.asker) c.args.query.now (Some (map (λ n. n.items) c.args.names.now))
    c.args.self.now.answers (map (λ n. n.items) c.args.names.now) (g.K.Sink.written c.args.out.now) (g.K.Sink.written c.ask_shown.new.out)
    c.in-Err.refusal c.in-Write.ensures
    (of_these (reader c.args.self.now.asker) c.args.query.now (map (λ n. n.items) c.args.names.now) _ c.in-Err.ensures.shows) c.in-Err.ensures.broke

pub returns-in-Memory-clause-comes : goal.returns-in-Memory-clause-comes
returns-in-Memory-clause-comes g c =
    memory_comes (entries_in c.args.self.now.asker) (reader c.args.self.now.asker) c.args.query.now (Some (map (λ n. n.items) c.args.names.now))
    c.args.self.now.answers (map (λ n. n.items) c.args.names.now) (g.K.Sink.written c.args.out.now) (g.K.Sink.written c.ask_shown.new.out)
    c.in-Err.refusal c.in-Memory.ensures
    (of_these (reader c.args.self.now.asker) c.args.query.now (map (λ n. n.items) c.args.names.now) _ c.in-Err.ensures.shows) c.in-Err.ensures.broke

pub returns-in-Missing-clause-comes : goal.returns-in-Missing-clause-comes
returns-in-Missing-clause-comes g c =
    let m = missing_of (reader c.args.self.now.asker) c.args.query.now (map (λ n. n.items) c.args.names.now) c.in-Err.refusal c.in-Missing.number c.in-Missing.ensures c.in-Err.ensures.refused in
    missing_comes (meaning_of c.args.self.now) c.args.query.now m.0 (map (λ n. n.items) c.args.names.now) c.in-Missing.number (g.K.Sink.written c.args.out.now) (g.K.Sink.written c.ask_shown.new.out) m.1.1 m
    (subst (Broke (entries_in c.args.self.now.asker) (map (λ n. n.items) c.args.names.now) false c.args.self.now.answers (g.K.Sink.written c.args.out.now) (g.K.Sink.written c.ask_shown.new.out)) c.in-Missing.ensures c.in-Err.ensures.broke)

pub returns-in-Text-clause-comes : goal.returns-in-Text-clause-comes
returns-in-Text-clause-comes g c =
    put_comes (entries_in c.args.self.now.asker) (reader c.args.self.now.asker) c.args.query.now (Some (map (λ n. n.items) c.args.names.now)) c.args.self.now.answers (g.K.Sink.written c.args.out.now) (g.K.Sink.written c.ask_shown.new.out) (g.K.Sink.written c.refuse.new.out) c.refuse.result
    (refused_still (entries_in c.args.self.now.asker) (map (λ n. n.items) c.args.names.now) false c.args.self.now.answers (g.K.Sink.written c.args.out.now) (g.K.Sink.written c.ask_shown.new.out) c.in-Err.refusal c.in-Text.ensures c.in-Err.ensures.broke) c.refuse.ensures.put

pub returns-in-Text-clause-faults : goal.returns-in-Text-clause-faults
returns-in-Text-clause-faults g c =
    still_faults c.in-Err.refusal _ (g.K.Sink.faults c.args.out.now) (g.K.Sink.faults c.ask_shown.new.out) (g.K.Sink.faults c.refuse.new.out) c.in-Text.ensures c.in-Err.ensures.faults c.refuse.ensures.faults

pub refuse-requires : goal.refuse-requires
refuse-requires g c = asked_text (reader c.args.self.now.asker) c.args.query.now (map (λ n. n.items) c.args.names.now) c.in-Err.refusal c.in-Text.ensures c.in-Err.ensures.refused
