use Rattle.lp_lemmas.proofs.Results.{passed_up}
use Rattle.lp_show.specs.Glossary.{entries_of}
use Rattle.lp_answers.specs.Texts.{names_in}
use Rattle.lp_query.specs.Faults.{IsOfWriting}
use Rattle.lp_query.specs.Outcomes.{Broke}
use Rattle.lp_query.proofs.Ends.{writing_stop, broke_before, broke_stop, ok_counts, stop_counts, may_report}
use Rattle.lp_query.proofs.answering.answer.Goals as goal

pub returns-in_err-machine-clause-refused : goal.returns-in_err-machine-clause-refused
returns-in_err-machine-clause-refused g c = passed_up c.from_residual.result _ IsOfWriting c.from_residual.ensures.1 tt

pub returns-in_err-machine-clause-broke : goal.returns-in_err-machine-clause-broke
returns-in_err-machine-clause-broke g c =
    let es = entries_of c.args.glossary.now.entries.items in
    let ns = names_in c.args.asked.names.items in
    let o = g.K.Sink.written c.args.out.now in
    passed_up c.from_residual.result _ (Broke es ns c.args.watched c.args.limits.answers o o) c.from_residual.ensures.1 (broke_before es ns c.args.watched c.args.limits.answers o)

pub returns-in_err-written-clause-refused : goal.returns-in_err-written-clause-refused
returns-in_err-written-clause-refused g c = passed_up c.from_residual-in_err-written.result _ IsOfWriting c.from_residual-in_err-written.ensures.1 (writing_stop c.in_err-written.field-0.0)

pub returns-in_err-written-clause-broke : goal.returns-in_err-written-clause-broke
returns-in_err-written-clause-broke g c =
    let es = entries_of c.args.glossary.now.entries.items in
    let ns = names_in c.args.asked.names.items in
    let o = g.K.Sink.written c.args.out.now in
    let n = g.K.Sink.written c.write_answers.new.out in
    passed_up c.from_residual-in_err-written.result _ (Broke es ns c.args.watched c.args.limits.answers o n) c.from_residual-in_err-written.ensures.1
    (broke_stop es ns c.args.watched c.args.limits.answers o n c.in_err-written.field-0.0 c.in_err-written.ensures.stopped)

pub returns-in_err-written-clause-faults : goal.returns-in_err-written-clause-faults
returns-in_err-written-clause-faults g c =
    stop_counts c.from_residual-in_err-written.result c.in_err-written.field-0.0 (g.K.Sink.faults c.args.out.now) (g.K.Sink.faults c.write_answers.new.out) c.from_residual-in_err-written.ensures.1 c.in_err-written.ensures.faults

pub returns-clause-written : goal.returns-clause-written
returns-clause-written g c = (_, (may_report c.args.watched _, c.in_ok-written.ensures.written))

pub returns-clause-faults : goal.returns-clause-faults
returns-clause-faults g c = ok_counts c.in_ok-written.written (g.K.Sink.faults c.args.out.now) (g.K.Sink.faults c.write_answers.new.out) c.in_ok-written.ensures.faults
