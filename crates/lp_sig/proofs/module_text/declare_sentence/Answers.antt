use Rattle.lp_sig.proofs.Reading.{sentence_types, no_types_said}
use Rattle.std.proofs.Common.{[], ◌∷◌, length, sym, subst}
use Rattle.std.proofs.lemmas.List.Elements.{All-nil}
use Rattle.std.proofs.lemmas.Result.{on_ok_weaker}
use Rattle.lp_sig.specs.Modules.{declarations, first_names}
use Rattle.lp_sig.specs.Sights.{IsAlike, AreWordsAlike}
use Rattle.lp_sig.proofs.Sayings.{its_line, no_line}
use Rattle.lp_sig.proofs.KnownConstants.{making_same}
use Rattle.std.proofs.Common.{inl, inr, ⊎_elim}
use Rattle.std.specs.Prelude.{All}
use Rattle.std.proofs.lemmas.List.Elements.{All-push}
use Rattle.std.proofs.lemmas.Result.{IfErr-weaker, IfOk-weaker}
use Rattle.lp_sig.specs.ModuleFaults.{IsLineTaken}
use Rattle.lp_sig.specs.ModuleFaults.{HasLineCause, HasLineTypeCause}
use Rattle.lp_sig.proofs.Taking.{one_declared, sentence_taken, none_taken}
use Rattle.lp_sig.proofs.module_text.declare_sentence.Goals as goal

pub returns-in-Declares-clause-words : goal.returns-in-Declares-clause-words
returns-in-Declares-clause-words c = on_ok_weaker c.declare.result (λ f words h. its_line c.declare.new.making.constants c.args.lines.now.source.now
    c.args.sentence.now c.in-Declares.declaration c.in-Declares.is words (f words h)) c.declare.ensures.words

pub returns-in-Says-clause-words : goal.returns-in-Says-clause-words
returns-in-Says-clause-words c = no_line c.args.making.now.constants c.args.lines.now.source.now c.args.sentence.now _ c.in-Says.is

pub returns-in-Declares-clause-grown : goal.returns-in-Declares-clause-grown
returns-in-Declares-clause-grown c = c.declare.ensures.grown

pub returns-in-Says-clause-grown : goal.returns-in-Says-clause-grown
returns-in-Says-clause-grown c = making_same c.args.making.now

pub returns-in-Declares-clause-alike : goal.returns-in-Declares-clause-alike
returns-in-Declares-clause-alike c = on_ok_weaker c.declare.result (λ f signatures modules h k. subst
    (λ l. AreWordsAlike c.args.lines.now.sights.now c.args.lines.now.source.now signatures modules (declarations (l ∷ []))) (sym c.in-Declares.is)
    (f signatures modules h k)) c.declare.ensures.alike

pub returns-in-Says-clause-alike : goal.returns-in-Says-clause-alike
returns-in-Says-clause-alike c = λ signatures modules h k. subst (λ l. AreWordsAlike c.args.lines.now.sights.now c.args.lines.now.source.now
    signatures modules (declarations (l ∷ []))) (sym c.in-Says.is)
    (All-nil (IsAlike c.args.lines.now.sights.now 0 signatures), All-nil (IsAlike c.args.lines.now.sights.now (length (first_names [] signatures)) modules))

pub returns-in-Declares-clause-refused : goal.returns-in-Declares-clause-refused
returns-in-Declares-clause-refused c = λ used z ds given k u hk hc. IfErr-weaker c.declare.result _ _
    (λ e f. ⊎_elim (λ m. inl m) (λ g. inr (c.in-Declares.declaration, c.in-Declares.is, g)) f) (c.declare.ensures.refused used z ds given k u hk hc)

pub returns-in-Declares-clause-taken : goal.returns-in-Declares-clause-taken
returns-in-Declares-clause-taken c = λ used z ds given k u hk hc. IfOk-weaker c.declare.result _ _
    (λ done t. subst (λ l. All (IsLineTaken c.args.lines.now.own.now used c.args.lines.now.source.now z ds) (declarations (l ∷ []))) (sym c.in-Declares.is)
    (All-push (IsLineTaken c.args.lines.now.own.now used c.args.lines.now.source.now z ds) [] c.in-Declares.declaration
    (All-nil (IsLineTaken c.args.lines.now.own.now used c.args.lines.now.source.now z ds)) t)) (c.declare.ensures.taken used z ds given k u hk hc)

pub returns-in-Says-clause-taken : goal.returns-in-Says-clause-taken
returns-in-Says-clause-taken c = λ used z ds given k u hk hc. subst (λ l. All (IsLineTaken c.args.lines.now.own.now used c.args.lines.now.source.now z ds)
    (declarations (l ∷ []))) (sym c.in-Says.is) (All-nil (IsLineTaken c.args.lines.now.own.now used c.args.lines.now.source.now z ds))

pub returns-in-Declares-clause-reads : goal.returns-in-Declares-clause-reads
returns-in-Declares-clause-reads c = on_ok_weaker c.declare.result (λ h. sentence_types c.args.making.now c.declare.new.making c.args.lines.now.source.now c.args.sentence.now c.in-Declares.declaration c.in-Declares.is h) c.declare.ensures.reads

pub returns-in-Says-clause-reads : goal.returns-in-Says-clause-reads
returns-in-Says-clause-reads c = no_types_said c.args.making.now c.args.lines.now.source.now c.args.sentence.now _ c.in-Says.is

pub returns-in-Declares-clause-full : goal.returns-in-Declares-clause-full
returns-in-Declares-clause-full c = λ said words k h d is. IfErr-weaker c.declare.result _ _
    (λ e f. subst (λ d. HasLineCause c.args.lines.now.own.now c.args.lines.now.source.now words d e) (one_declared c.args.sentence.now c.in-Declares.declaration d c.in-Declares.is is) f) (c.declare.ensures.full said words k h)

pub returns-in-Declares-clause-other : goal.returns-in-Declares-clause-other
returns-in-Declares-clause-other c = λ said defs given rows words r d is. IfErr-weaker c.declare.result _ _
    (λ e f. subst (λ d. HasLineTypeCause c.args.lines.now.own.now c.args.lines.now.source.now said defs given rows d e) (one_declared c.args.sentence.now c.in-Declares.declaration d c.in-Declares.is is) f) (c.declare.ensures.other said defs given rows words r)

pub returns-in-Declares-clause-takes : goal.returns-in-Declares-clause-takes
returns-in-Declares-clause-takes c = on_ok_weaker c.declare.result (λ h. sentence_taken c.args.making.now c.declare.new.making c.args.lines.now.source.now c.args.sentence.now c.in-Declares.declaration c.in-Declares.is h) c.declare.ensures.takes

pub returns-in-Says-clause-takes : goal.returns-in-Says-clause-takes
returns-in-Says-clause-takes c = none_taken c.args.making.now c.args.lines.now.source.now c.args.sentence.now _ c.in-Says.is
