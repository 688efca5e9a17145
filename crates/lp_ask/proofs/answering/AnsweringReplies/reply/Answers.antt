use Rattle.std.proofs.Common.{map, None, Some, sym, subst}
use Rattle.std.specs.Prelude.{option_map, IfOk, IfErr}
use Rattle.lp_session.specs.Replies.{IsReplied, IsBroken}
use Rattle.lp_query.specs.Outcomes.{entries_in, reader}
use Rattle.lp_ask.specs.Allowed.{meaning_of}
use Rattle.lp_ask.proofs.Coming.{comes_ok, comes_err, same_meaning}
use Rattle.lp_ask.proofs.answering.AnsweringReplies.reply.Goals as goal

pub returns-in-None-clause-replied : goal.returns-in-None-clause-replied
returns-in-None-clause-replied g c =
    subst (λ s. IfOk c.reply_all.result (IsReplied (meaning_of c.args.self.now) c.args.query.now
    (option_map (λ names. map (λ n. n.items) names.now) s) (g.K.Sink.written c.args.out.now) (g.K.Sink.written c.reply_all.new.out)))
    (sym c.in-None.is) (comes_ok (meaning_of c.args.self.now) c.args.query.now None (g.K.Sink.written c.args.out.now)
    (g.K.Sink.written c.reply_all.new.out) c.reply_all.result c.reply_all.ensures.comes)

pub returns-in-None-clause-broken : goal.returns-in-None-clause-broken
returns-in-None-clause-broken g c =
    subst (λ s. IfErr c.reply_all.result (IsBroken (meaning_of c.args.self.now) c.args.query.now
    (option_map (λ names. map (λ n. n.items) names.now) s) (g.K.Sink.written c.args.out.now) (g.K.Sink.written c.reply_all.new.out)))
    (sym c.in-None.is) (comes_err (meaning_of c.args.self.now) c.args.query.now None (g.K.Sink.written c.args.out.now)
    (g.K.Sink.written c.reply_all.new.out) c.reply_all.result c.reply_all.ensures.comes)

pub returns-in-None-clause-same : goal.returns-in-None-clause-same
returns-in-None-clause-same g c =
    same_meaning (entries_in c.args.self.now.asker) (entries_in c.reply_all.new.self.asker) (reader c.args.self.now.asker) (reader c.reply_all.new.self.asker) c.reply_all.ensures.entries c.reply_all.ensures.reader

pub returns-in-Some-clause-replied : goal.returns-in-Some-clause-replied
returns-in-Some-clause-replied g c =
    subst (λ s. IfOk c.reply_some.result (IsReplied (meaning_of c.args.self.now) c.args.query.now
    (option_map (λ names. map (λ n. n.items) names.now) s) (g.K.Sink.written c.args.out.now) (g.K.Sink.written c.reply_some.new.out)))
    (sym c.in-Some.is) (comes_ok (meaning_of c.args.self.now) c.args.query.now (Some (map (λ n. n.items) c.in-Some.names.now))
    (g.K.Sink.written c.args.out.now) (g.K.Sink.written c.reply_some.new.out) c.reply_some.result c.reply_some.ensures.comes)

pub returns-in-Some-clause-broken : goal.returns-in-Some-clause-broken
returns-in-Some-clause-broken g c =
    subst (λ s. IfErr c.reply_some.result (IsBroken (meaning_of c.args.self.now) c.args.query.now
    (option_map (λ names. map (λ n. n.items) names.now) s) (g.K.Sink.written c.args.out.now) (g.K.Sink.written c.reply_some.new.out)))
    (sym c.in-Some.is) (comes_err (meaning_of c.args.self.now) c.args.query.now (Some (map (λ n. n.items) c.in-Some.names.now))
    (g.K.Sink.written c.args.out.now) (g.K.Sink.written c.reply_some.new.out) c.reply_some.result c.reply_some.ensures.comes)

pub returns-in-Some-clause-same : goal.returns-in-Some-clause-same
returns-in-Some-clause-same g c =
    same_meaning (entries_in c.args.self.now.asker) (entries_in c.reply_some.new.self.asker) (reader c.args.self.now.asker) (reader c.reply_some.new.self.asker) c.reply_some.ensures.entries c.reply_some.ensures.reader
