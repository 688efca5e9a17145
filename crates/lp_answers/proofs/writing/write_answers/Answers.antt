use Rattle.std.proofs.Common.{◌+◌, ◌∙◌, refl, sym, ap, subst, inl, arith, add-one}
use Rattle.lp_base.specs.Written.{Appends, AppendsPrefix}
use Rattle.lp_lemmas.proofs.Results.{passed_up}
use Rattle.lp_model.specs.declared.ending.Ending.TheVariants as ending
use Rattle.lp_show.specs.Glossary.{entries_of}
use Rattle.lp_answers.specs.Pieces.{IsPiece}
use Rattle.lp_answers.specs.Texts.{names_in, IsAnswer, Wrote, Stopping, MayReport}
use Rattle.lp_answers.proofs.Counting.{same_count}
use Rattle.lp_answers.proofs.Behind.{wrote_nothing, wrote_more, wrote_cut, ended_all, ended_stopped, may_report}
use Rattle.lp_answers.proofs.writing.write_answers.Goals as goal

pub answers-init : goal.answers-init
answers-init g c = (c.requires, (refl, wrote_nothing (entries_of c.args.shown.now.glossary.now.entries.items) (names_in c.args.shown.now.names.items) (g.K.Sink.written c.args.out.now)))

pub answers-preserved : goal.answers-preserved
answers-preserved g c =
    let es = entries_of c.args.shown.now.glossary.now.entries.items in
    let ns = names_in c.args.shown.now.names.items in
    let k = c.answers.before in (
      c.next_piece.ensures.variables ∙ c.answers.invariant.0,
      (
        same_count _ (g.K.Sink.faults c.answers.out) (g.K.Sink.faults c.put.new.out) c.in_ok-put-in-Answer.ensures.faults (λ e. cc) ∙ c.answers.invariant.1.0,
        wrote_more es ns k (k + 1) (g.K.Sink.written c.args.out.now) (g.K.Sink.written c.answers.out) (g.K.Sink.written c.put.new.out) c.in-Answer.lines.items (omega arith) c.answers.invariant.1.1
            (subst (IsPiece es ns (k + 1)) c.in-Answer.is c.in_ok-why.ensures.piece) (subst (λ p. Appends (g.K.Sink.written c.answers.out) (g.K.Sink.written c.put.new.out) p) c.deref.ensures.value c.in_ok-put-in-Answer.ensures.appended),
      ),
    )

pub returns-in-Over-clause-stopped : goal.returns-in-Over-clause-stopped
returns-in-Over-clause-stopped g c =
    ended_stopped (entries_of c.args.shown.now.glossary.now.entries.items) (names_in c.args.shown.now.names.items) (MayReport c.args.watched) c.answers.before c.args.answers (g.K.Sink.written c.args.out.now) (g.K.Sink.written c.answers.out) (g.K.Sink.written c.write_end.new.out)
    c.in-Over.why _ c.write_end.result (may_report c.args.watched _) c.answers.auto.before-end c.answers.invariant.1.1 c.write_end.ensures.cut (λ h. ap g.K.Sink.written (c.write_end.ensures.memory h))

pub returns-in_err-put-in-Answer-clause-stopped : goal.returns-in_err-put-in-Answer-clause-stopped
returns-in_err-put-in-Answer-clause-stopped g c =
    let es = entries_of c.args.shown.now.glossary.now.entries.items in
    let ns = names_in c.args.shown.now.names.items in
    let k = c.answers.before in
    let old = g.K.Sink.written c.args.out.now in
    let new = g.K.Sink.written c.put.new.out in
    passed_up c.from_residual-in_err-put-in-Answer.result c.in_err-put-in-Answer.field-0.0 (Stopping es ns (MayReport c.args.watched) c.args.answers old new) c.from_residual-in_err-put-in-Answer.ensures.1
    (subst (Stopping es ns (MayReport c.args.watched) c.args.answers old new) (sym c.in_err-put-in-Answer.ensures.refused)
    (wrote_cut es ns (MayReport c.args.watched) k c.args.answers old (g.K.Sink.written c.answers.out) new c.in-Answer.lines.items c.answers.auto.before-end c.answers.invariant.1.1
    (inl (subst (λ n. IsAnswer es ns n c.in-Answer.lines.items) (add-one k) (subst (IsPiece es ns (k + 1)) c.in-Answer.is c.in_ok-why.ensures.piece)))
    (subst (AppendsPrefix (g.K.Sink.written c.answers.out) new) c.deref.ensures.value c.in_err-put-in-Answer.ensures.prefix)))

pub returns-clause-stopped : goal.returns-clause-stopped
returns-clause-stopped g c =
    ended_stopped (entries_of c.args.shown.now.glossary.now.entries.items) (names_in c.args.shown.now.names.items) (MayReport c.args.watched) c.args.answers c.args.answers (g.K.Sink.written c.args.out.now) (g.K.Sink.written c.answers.out) (g.K.Sink.written c.write_end-2.new.out)
    ending.Enough _ c.write_end-2.result (may_report c.args.watched _) (omega arith)
    (subst (λ n. Wrote (entries_of c.args.shown.now.glossary.now.entries.items) (names_in c.args.shown.now.names.items) n
    (g.K.Sink.written c.args.out.now) (g.K.Sink.written c.answers.out)) (let l = c.answers-test.false in let m = c.answers.auto.before-end in
    omega (arith, l, m)) c.answers.invariant.1.1) c.write_end-2.ensures.cut (λ h. ap g.K.Sink.written (c.write_end-2.ensures.memory h))

pub returns-in-Over-clause-written : goal.returns-in-Over-clause-written
returns-in-Over-clause-written g c =
    ended_all (entries_of c.args.shown.now.glossary.now.entries.items) (names_in c.args.shown.now.names.items) c.answers.before c.args.answers _ (g.K.Sink.written c.args.out.now) (g.K.Sink.written c.answers.out) (g.K.Sink.written c.write_end.new.out)
    c.write_end.result c.answers.auto.before-end c.answers.invariant.1.1 c.write_end.ensures.written

pub returns-clause-written : goal.returns-clause-written
returns-clause-written g c =
    ended_all (entries_of c.args.shown.now.glossary.now.entries.items) (names_in c.args.shown.now.names.items) c.args.answers c.args.answers _ (g.K.Sink.written c.args.out.now) (g.K.Sink.written c.answers.out) (g.K.Sink.written c.write_end-2.new.out)
    c.write_end-2.result (omega arith) (subst (λ n. Wrote (entries_of c.args.shown.now.glossary.now.entries.items)
    (names_in c.args.shown.now.names.items) n (g.K.Sink.written c.args.out.now) (g.K.Sink.written c.answers.out))
    (let l = c.answers-test.false in let m = c.answers.auto.before-end in omega (arith, l, m)) c.answers.invariant.1.1)
    c.write_end-2.ensures.written
