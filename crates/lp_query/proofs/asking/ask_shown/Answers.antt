use Rattle.std.proofs.Common.{List, [], ℕ, map, inl, ◌≡◌, false, is_some}
use Rattle.lp_lemmas.proofs.Results.{passed_up}
use Rattle.lp_query.specs.declared.fault.AskRefusal.{AskRefusal}
use Rattle.lp_query.specs.declared.fault.AskRefusal.TheVariants.{Write, Memory}
use Rattle.lp_query.specs.Faults.{IsAskRefusal}
use Rattle.lp_query.proofs.Names.{bytes}
use Rattle.lp_query.proofs.Ends.{broke_before, still_counts, passed_counts, done_counts, any_fault}
use Rattle.lp_query.proofs.asking.ask_shown.Goals as goal

pub returns-in_err-asker-clause-refused : goal.returns-in_err-asker-clause-refused
returns-in_err-asker-clause-refused g c =
    passed_up c.from_residual.result _ _ c.from_residual.ensures.1 (inl tt)

pub returns-in_err-asker-clause-broke : goal.returns-in_err-asker-clause-broke
returns-in_err-asker-clause-broke g c =
    passed_up c.from_residual.result _ _ c.from_residual.ensures.1 ([], broke_before [] (map bytes c.args.shown.now) false c.args.answers (g.K.Sink.written c.args.out.now))

pub returns-in_err-asker-clause-faults : goal.returns-in_err-asker-clause-faults
returns-in_err-asker-clause-faults g c =
    still_counts c.from_residual.result Memory (g.K.Sink.faults c.args.out.now) c.from_residual.ensures.1 (λ z. absurd (cc))

pub returns-in_err-written-clause-refused : goal.returns-in_err-written-clause-refused
returns-in_err-written-clause-refused g c =
    passed_up c.from_residual-in_err-written.result c.in_err-written.field-0.0 _ c.from_residual-in_err-written.ensures.1 (any_fault _ c.args.query.now (map bytes c.args.shown.now) c.in_err-written.field-0.0 c.in_err-written.ensures.refused)

pub returns-in_err-written-clause-broke : goal.returns-in_err-written-clause-broke
returns-in_err-written-clause-broke g c =
    passed_up c.from_residual-in_err-written.result c.in_err-written.field-0.0 _ c.from_residual-in_err-written.ensures.1 (_, c.in_err-written.ensures.broke)

pub returns-in_err-written-clause-faults : goal.returns-in_err-written-clause-faults
returns-in_err-written-clause-faults g c =
    passed_counts c.from_residual-in_err-written.result c.in_err-written.field-0.0 _ _ c.from_residual-in_err-written.ensures.1 c.in_err-written.ensures.faults

pub returns-clause-written : goal.returns-clause-written
returns-clause-written g c =
    (_, (c.in_ok-written.written, c.in_ok-written.ensures.written))

pub returns-clause-faults : goal.returns-clause-faults
returns-clause-faults g c =
    done_counts c.in_ok-written.written _ _ _ c.in_ok-written.ensures.faults
