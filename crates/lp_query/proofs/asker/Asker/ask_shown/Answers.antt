use Rattle.std.proofs.Common.{List, [], ℕ, map, subst, inl, inr, ◌≡◌, sym, ap, false, is_some, ◌∙◌}
use Rattle.std.specs.Prelude.{◌⊎◌, IfOk, IfErr}
use Rattle.lp_lemmas.proofs.Results.{passed_up}
use Rattle.lp_answers.specs.Texts.{names_in}
use Rattle.lp_query.specs.Faults.{IsUnwritten}
use Rattle.lp_query.specs.Variables.{AreVariables}
use Rattle.lp_query.specs.Outcomes.{entries_in, reader, ShowsVariables, Answered, Broke}
use Rattle.lp_query.proofs.Names.{bytes}
use Rattle.lp_query.proofs.Ends.{ask_of_query, broke_before, broke_query, broke_shown, still_counts, no_write_shown, query_unwritten, shown_unwritten, for_ok, for_err, IsShownFault, shown_fault, writing_fault}
use Rattle.lp_query.proofs.asker.Asker.ask_shown.Goals as goal

pub returns-in_err-compiled-clause-refused : goal.returns-in_err-compiled-clause-refused
returns-in_err-compiled-clause-refused g c =
    passed_up c.from_residual.result c.in_err-compiled.field-0.0 (IsShownFault (AreVariables (reader c.args.self.now) c.args.query.now)
    c.args.query.now (map bytes c.args.shown.now)) c.from_residual.ensures.1 (inl
    (ask_of_query c.args.query.now c.in_err-compiled.field-0.0 c.in_err-compiled.ensures.refused))

pub returns-in_err-compiled-clause-broke : goal.returns-in_err-compiled-clause-broke
returns-in_err-compiled-clause-broke g c =
    passed_up c.from_residual.result c.in_err-compiled.field-0.0 (Broke (entries_in c.args.self.now) (map bytes c.args.shown.now) false c.args.answers (g.K.Sink.written c.args.out.now) (g.K.Sink.written c.args.out.now)) c.from_residual.ensures.1
    (broke_query (entries_in c.args.self.now) (map bytes c.args.shown.now) false c.args.answers c.args.query.now (g.K.Sink.written c.args.out.now) c.in_err-compiled.field-0.0 c.in_err-compiled.ensures.refused)

pub returns-in_err-asked-clause-refused : goal.returns-in_err-asked-clause-refused
returns-in_err-asked-clause-refused g c =
    passed_up c.from_residual-in_err-asked.result c.in_err-asked.field-0.0 (IsShownFault (AreVariables (reader c.args.self.now) c.args.query.now) c.args.query.now (map bytes c.args.shown.now)) c.from_residual-in_err-asked.ensures.1
    (shown_fault (AreVariables (reader c.args.self.now) c.args.query.now) c.args.query.now (map bytes c.args.shown.now) (map bytes c.in_ok-compiled.compiled.names.items) c.in_err-asked.field-0.0 c.in_ok-compiled.ensures.variables (c.in_err-asked.ensures.refused c.args.query.now))

pub returns-in_err-asked-clause-broke : goal.returns-in_err-asked-clause-broke
returns-in_err-asked-clause-broke g c =
    passed_up c.from_residual-in_err-asked.result c.in_err-asked.field-0.0 (Broke (entries_in c.args.self.now) (map bytes c.args.shown.now) false c.args.answers (g.K.Sink.written c.args.out.now) (g.K.Sink.written c.args.out.now)) c.from_residual-in_err-asked.ensures.1
    (broke_shown (entries_in c.args.self.now) (map bytes c.args.shown.now) false c.args.answers c.args.query.now
    (map bytes c.in_ok-compiled.compiled.names.items) (map bytes c.args.shown.now) (g.K.Sink.written c.args.out.now) c.in_err-asked.field-0.0
    (c.in_err-asked.ensures.refused c.args.query.now))

pub returns-in_err-asked-clause-faults : goal.returns-in_err-asked-clause-faults
returns-in_err-asked-clause-faults g c =
    still_counts c.from_residual-in_err-asked.result c.in_err-asked.field-0.0 (g.K.Sink.faults c.args.out.now) c.from_residual-in_err-asked.ensures.1
    (no_write_shown (map bytes c.in_ok-compiled.compiled.names.items) (map bytes c.args.shown.now) c.in_err-asked.field-0.0
    c.in_err-asked.ensures.refused)

pub returns-clause-refused : goal.returns-clause-refused
returns-clause-refused g c =
    writing_fault (AreVariables (reader c.args.self.now) c.args.query.now) c.args.query.now (map bytes c.args.shown.now) c.answer.result c.answer.ensures.refused

pub returns-clause-written : goal.returns-clause-written
returns-clause-written g c =
    subst (λ es. IfOk c.answer.result (Answered es (map bytes c.args.shown.now) false c.args.answers (g.K.Sink.written c.args.out.now) (g.K.Sink.written c.answer.new.out))) c.compile.ensures.entries
    (subst (λ ns. IfOk c.answer.result (Answered (entries_in c.compile.new.self) ns false c.args.answers (g.K.Sink.written c.args.out.now) (g.K.Sink.written c.answer.new.out))) c.in_ok-asked.ensures.names c.answer.ensures.written)

pub returns-clause-broke : goal.returns-clause-broke
returns-clause-broke g c =
    subst (λ es. IfErr c.answer.result (Broke es (map bytes c.args.shown.now) false c.args.answers (g.K.Sink.written c.args.out.now) (g.K.Sink.written c.answer.new.out))) c.compile.ensures.entries
    (subst (λ ns. IfErr c.answer.result (Broke (entries_in c.compile.new.self) ns false c.args.answers (g.K.Sink.written c.args.out.now) (g.K.Sink.written c.answer.new.out))) c.in_ok-asked.ensures.names c.answer.ensures.broke)

pub returns-in_err-compiled-clause-shows : goal.returns-in_err-compiled-clause-shows
returns-in_err-compiled-clause-shows g c =
    passed_up c.from_residual.result c.in_err-compiled.field-0.0 (λ e. ShowsVariables (reader c.args.self.now) c.args.query.now (map bytes c.args.shown.now) ⊎ IsUnwritten (g.K.Sink.written c.args.out.now) (g.K.Sink.written c.args.out.now) e) c.from_residual.ensures.1
    (inr (query_unwritten c.args.query.now (g.K.Sink.written c.args.out.now) c.in_err-compiled.field-0.0 c.in_err-compiled.ensures.refused))

pub returns-in_err-asked-clause-shows : goal.returns-in_err-asked-clause-shows
returns-in_err-asked-clause-shows g c =
    passed_up c.from_residual-in_err-asked.result c.in_err-asked.field-0.0 (λ e. ShowsVariables (reader c.args.self.now) c.args.query.now (map bytes c.args.shown.now) ⊎ IsUnwritten (g.K.Sink.written c.args.out.now) (g.K.Sink.written c.args.out.now) e) c.from_residual-in_err-asked.ensures.1
    (inr (shown_unwritten c.args.query.now (map bytes c.in_ok-compiled.compiled.names.items) (map bytes c.args.shown.now) (g.K.Sink.written c.args.out.now) c.in_err-asked.field-0.0 (c.in_err-asked.ensures.refused c.args.query.now)))

pub returns-clause-there : goal.returns-clause-there
returns-clause-there g c = for_ok c.answer.result (map bytes c.in_ok-compiled.compiled.names.items, (c.in_ok-compiled.ensures.variables, c.in_ok-asked.ensures.there))

pub returns-clause-shows : goal.returns-clause-shows
returns-clause-shows g c = for_err _ c.answer.result (map bytes c.in_ok-compiled.compiled.names.items, (c.in_ok-compiled.ensures.variables, c.in_ok-asked.ensures.there))
