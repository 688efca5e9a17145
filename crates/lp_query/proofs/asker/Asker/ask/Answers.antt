use Rattle.std.proofs.Common.{List, [], ℕ, map, subst, inr, ◌≡◌, sym, ap, false, is_some, ◌∙◌}
use Rattle.std.specs.Prelude.{◌⊎◌, IfOk, IfErr}
use Rattle.lp_lemmas.proofs.Results.{passed_up}
use Rattle.lp_answers.specs.Texts.{names_in}
use Rattle.lp_query.specs.Faults.{IsAskRefusal, IsUnwritten}
use Rattle.lp_query.specs.Variables.{AreVariables}
use Rattle.lp_query.specs.Outcomes.{entries_in, reader, Answered, Broke}
use Rattle.lp_query.proofs.Refused.{of_query}
use Rattle.lp_query.proofs.Names.{bytes}
use Rattle.lp_query.proofs.Ends.{ask_of_query, broke_before, broke_query, broke_shown, still_counts, no_write, query_unwritten, of_some_names, broke_some_names, refused_writing}
use Rattle.lp_query.proofs.asker.Asker.ask.Goals as goal

pub returns-in_err-compiled-clause-refused : goal.returns-in_err-compiled-clause-refused
returns-in_err-compiled-clause-refused g c =
    passed_up c.from_residual.result c.in_err-compiled.field-0.0 (IsAskRefusal c.args.query.now) c.from_residual.ensures.1 (ask_of_query c.args.query.now c.in_err-compiled.field-0.0 c.in_err-compiled.ensures.refused)

pub returns-in_err-compiled-clause-broke : goal.returns-in_err-compiled-clause-broke
returns-in_err-compiled-clause-broke g c =
    passed_up c.from_residual.result c.in_err-compiled.field-0.0 (λ e. (names : List (List ℕ)) ×
    ((AreVariables (reader c.args.self.now) c.args.query.now names ⊎ IsUnwritten (g.K.Sink.written c.args.out.now)
    (g.K.Sink.written c.args.out.now) e) × Broke (entries_in c.args.self.now) names (is_some c.args.watchers) c.args.answers
    (g.K.Sink.written c.args.out.now) (g.K.Sink.written c.args.out.now) e)) c.from_residual.ensures.1 (
      [],
      (
        inr (query_unwritten c.args.query.now (g.K.Sink.written c.args.out.now) c.in_err-compiled.field-0.0 c.in_err-compiled.ensures.refused),
        broke_query (entries_in c.args.self.now) [] (is_some c.args.watchers) c.args.answers c.args.query.now (g.K.Sink.written c.args.out.now)
            c.in_err-compiled.field-0.0 c.in_err-compiled.ensures.refused,
      ),
    )

pub returns-in_err-asked-clause-refused : goal.returns-in_err-asked-clause-refused
returns-in_err-asked-clause-refused g c =
    passed_up c.from_residual-in_err-asked.result c.in_err-asked.field-0.0 (IsAskRefusal c.args.query.now) c.from_residual-in_err-asked.ensures.1 (ask_of_query c.args.query.now c.in_err-asked.field-0.0 (c.in_err-asked.ensures.refused c.args.query.now))

pub returns-in_err-asked-clause-broke : goal.returns-in_err-asked-clause-broke
returns-in_err-asked-clause-broke g c =
    passed_up c.from_residual-in_err-asked.result c.in_err-asked.field-0.0 (λ e. (names : List (List ℕ)) ×
    ((AreVariables (reader c.args.self.now) c.args.query.now names ⊎ IsUnwritten (g.K.Sink.written c.args.out.now)
    (g.K.Sink.written c.args.out.now) e) × Broke (entries_in c.args.self.now) names (is_some c.args.watchers) c.args.answers
    (g.K.Sink.written c.args.out.now) (g.K.Sink.written c.args.out.now) e)) c.from_residual-in_err-asked.ensures.1 (
      [],
      (
        inr (query_unwritten c.args.query.now (g.K.Sink.written c.args.out.now) c.in_err-asked.field-0.0
            (c.in_err-asked.ensures.refused c.args.query.now)),
        broke_query (entries_in c.args.self.now) [] (is_some c.args.watchers) c.args.answers
            c.args.query.now (g.K.Sink.written c.args.out.now) c.in_err-asked.field-0.0 (c.in_err-asked.ensures.refused c.args.query.now),
      ),
    )

pub returns-in_err-asked-clause-faults : goal.returns-in_err-asked-clause-faults
returns-in_err-asked-clause-faults g c =
    still_counts c.from_residual-in_err-asked.result c.in_err-asked.field-0.0 (g.K.Sink.faults c.args.out.now) c.from_residual-in_err-asked.ensures.1 (no_write c.in_err-asked.field-0.0 c.in_err-asked.ensures.refused)

pub returns-in-Some-clause-refused : goal.returns-in-Some-clause-refused
returns-in-Some-clause-refused g c =
    refused_writing c.args.query.now c.answer.result c.answer.ensures.refused

pub returns-in-Some-clause-written : goal.returns-in-Some-clause-written
returns-in-Some-clause-written g c =
    of_some_names (AreVariables (reader c.args.self.now) c.args.query.now) (entries_in c.args.self.now) (is_some c.args.watchers) c.args.answers (g.K.Sink.written c.args.out.now) (g.K.Sink.written c.answer.new.out) (names_in c.in_ok-asked.asked.names.items)
    (subst (λ ns. AreVariables (reader c.args.self.now) c.args.query.now (names_in ns.items)) (sym c.in_ok-asked.ensures.names) c.in_ok-compiled.ensures.variables) c.answer.result
    (subst (λ es. IfOk c.answer.result (Answered es (names_in c.in_ok-asked.asked.names.items) (is_some c.args.watchers) c.args.answers (g.K.Sink.written c.args.out.now) (g.K.Sink.written c.answer.new.out))) c.compile.ensures.entries
    (subst (λ b. IfOk c.answer.result (Answered (entries_in c.compile.new.self) (names_in c.in_ok-asked.asked.names.items) b c.args.answers (g.K.Sink.written c.args.out.now) (g.K.Sink.written c.answer.new.out))) (sym (ap is_some c.in-Some.is)) c.answer.ensures.written))

pub returns-in-Some-clause-broke : goal.returns-in-Some-clause-broke
returns-in-Some-clause-broke g c =
    broke_some_names (AreVariables (reader c.args.self.now) c.args.query.now) (entries_in c.args.self.now) (is_some c.args.watchers) c.args.answers (g.K.Sink.written c.args.out.now) (g.K.Sink.written c.answer.new.out) (names_in c.in_ok-asked.asked.names.items)
    (subst (λ ns. AreVariables (reader c.args.self.now) c.args.query.now (names_in ns.items)) (sym c.in_ok-asked.ensures.names) c.in_ok-compiled.ensures.variables) c.answer.result
    (subst (λ es. IfErr c.answer.result (Broke es (names_in c.in_ok-asked.asked.names.items) (is_some c.args.watchers) c.args.answers (g.K.Sink.written c.args.out.now) (g.K.Sink.written c.answer.new.out))) c.compile.ensures.entries
    (subst (λ b. IfErr c.answer.result (Broke (entries_in c.compile.new.self) (names_in c.in_ok-asked.asked.names.items) b c.args.answers (g.K.Sink.written c.args.out.now) (g.K.Sink.written c.answer.new.out))) (sym (ap is_some c.in-Some.is)) c.answer.ensures.broke))

pub returns-in-None-clause-refused : goal.returns-in-None-clause-refused
returns-in-None-clause-refused g c =
    refused_writing c.args.query.now c.answer-in-None.result c.answer-in-None.ensures.refused

pub returns-in-None-clause-written : goal.returns-in-None-clause-written
returns-in-None-clause-written g c =
    of_some_names (AreVariables (reader c.args.self.now) c.args.query.now) (entries_in c.args.self.now) (is_some c.args.watchers) c.args.answers (g.K.Sink.written c.args.out.now) (g.K.Sink.written c.answer-in-None.new.out) (names_in c.in_ok-asked.asked.names.items)
    (subst (λ ns. AreVariables (reader c.args.self.now) c.args.query.now (names_in ns.items)) (sym c.in_ok-asked.ensures.names) c.in_ok-compiled.ensures.variables) c.answer-in-None.result
    (subst (λ es. IfOk c.answer-in-None.result (Answered es (names_in c.in_ok-asked.asked.names.items) (is_some c.args.watchers) c.args.answers (g.K.Sink.written c.args.out.now) (g.K.Sink.written c.answer-in-None.new.out))) c.compile.ensures.entries
    (subst (λ b. IfOk c.answer-in-None.result (Answered (entries_in c.compile.new.self) (names_in c.in_ok-asked.asked.names.items) b c.args.answers (g.K.Sink.written c.args.out.now) (g.K.Sink.written c.answer-in-None.new.out))) (sym (ap is_some c.in-None.is)) c.answer-in-None.ensures.written))

pub returns-in-None-clause-broke : goal.returns-in-None-clause-broke
returns-in-None-clause-broke g c =
    broke_some_names (AreVariables (reader c.args.self.now) c.args.query.now) (entries_in c.args.self.now) (is_some c.args.watchers) c.args.answers (g.K.Sink.written c.args.out.now) (g.K.Sink.written c.answer-in-None.new.out) (names_in c.in_ok-asked.asked.names.items)
    (subst (λ ns. AreVariables (reader c.args.self.now) c.args.query.now (names_in ns.items)) (sym c.in_ok-asked.ensures.names) c.in_ok-compiled.ensures.variables) c.answer-in-None.result
    (subst (λ es. IfErr c.answer-in-None.result (Broke es (names_in c.in_ok-asked.asked.names.items) (is_some c.args.watchers) c.args.answers (g.K.Sink.written c.args.out.now) (g.K.Sink.written c.answer-in-None.new.out))) c.compile.ensures.entries
    (subst (λ b. IfErr c.answer-in-None.result (Broke (entries_in c.compile.new.self) (names_in c.in_ok-asked.asked.names.items) b c.args.answers (g.K.Sink.written c.args.out.now) (g.K.Sink.written c.answer-in-None.new.out))) (sym (ap is_some c.in-None.is)) c.answer-in-None.ensures.broke))
