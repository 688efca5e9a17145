use Rattle.lp_sig.proofs.Reading.{local_types, reads_same}
use Rattle.std.proofs.lemmas.Result.{on_ok_weaker}
use Rattle.lp_lemmas.proofs.Results.{on_ok_always}
use Rattle.lp_sig.proofs.Sayings.{its_locals, no_locals}
use Rattle.lp_sig.proofs.KnownConstants.{making_same}
use Rattle.std.proofs.Common.{◌≡◌, sym, subst, inr, None}
use Rattle.std.specs.Prelude.{◌⊎◌}
use Rattle.std.proofs.lemmas.Result.{IfErr-weaker, IfOk-weaker}
use Rattle.lp_sig.specs.ModuleFaults.{AreLocalsRefused, AreLocalsTaken}
use Rattle.lp_sig.specs.declared.fault.SigFault.TheVariants as fault
use Rattle.lp_sig.specs.declared.module_fault.ModuleSigFault.TheVariants as wrong
use Rattle.lp_sig.specs.ModuleFaults.{HaveLocalsCause, HaveLocalsTypeCause}
use Rattle.lp_sig.proofs.Taking.{err_with, local_taken, takes_same}
use Rattle.lp_sig.proofs.module_lines.ModuleLines.locals_typed.Goals as goal

pub returns-in-Some-clause-words : goal.returns-in-Some-clause-words
returns-in-Some-clause-words c = on_ok_weaker c.locals.result (λ f words h. its_locals c.locals.new.making.constants c.args.self.now.source.now
    c.args.names.now c.args.raw.now c.in-Some.raw c.in-Some.is words (f words h)) c.locals.ensures.words

pub returns-in-None-clause-words : goal.returns-in-None-clause-words
returns-in-None-clause-words c = on_ok_always c.known_constants.result _ (no_locals c.args.making.now.constants c.args.self.now.source.now c.args.names.now c.args.raw.now c.in-None.is)

pub returns-in-Some-clause-grown : goal.returns-in-Some-clause-grown
returns-in-Some-clause-grown c = c.locals.ensures.grown

pub returns-in-None-clause-grown : goal.returns-in-None-clause-grown
returns-in-None-clause-grown c = on_ok_always c.known_constants.result _ (making_same c.args.making.now)

pub returns-in-Some-clause-refused : goal.returns-in-Some-clause-refused
returns-in-Some-clause-refused c = λ said known k h. IfErr-weaker c.locals.result _ _
    (λ e f. subst (λ o. (e ≡ wrong.Sig fault.Memory) ⊎ AreLocalsRefused c.args.self.now.own.now c.args.self.now.source.now said known c.args.names.now
    o e) (sym c.in-Some.is) f) (c.locals.ensures.refused said k)

pub returns-in-None-clause-refused : goal.returns-in-None-clause-refused
returns-in-None-clause-refused c = λ said known k h. IfErr-weaker c.known_constants.result _ _
    (λ e f. inr (subst (λ o. AreLocalsRefused c.args.self.now.own.now c.args.self.now.source.now said known c.args.names.now o e) (sym c.in-None.is)
    f)) (c.known_constants.ensures.refused known h)

pub returns-in-Some-clause-taken : goal.returns-in-Some-clause-taken
returns-in-Some-clause-taken c = λ said known k h. IfOk-weaker c.locals.result _ _ (λ done t. subst
    (λ o. AreLocalsTaken c.args.self.now.own.now c.args.self.now.source.now said known c.args.names.now o) (sym c.in-Some.is) t)
    (c.locals.ensures.taken said k)

pub returns-in-None-clause-taken : goal.returns-in-None-clause-taken
returns-in-None-clause-taken c = λ said known k h. IfOk-weaker c.known_constants.result _ _
    (λ done t. subst (λ o. AreLocalsTaken c.args.self.now.own.now c.args.self.now.source.now said known c.args.names.now o) (sym c.in-None.is) t)
    (c.known_constants.ensures.taken known h)

pub returns-in-Some-clause-reads : goal.returns-in-Some-clause-reads
returns-in-Some-clause-reads c = on_ok_weaker c.locals.result (λ h. local_types c.args.making.now c.locals.new.making c.args.self.now.source.now c.args.names.now c.args.raw.now _ c.in-Some.is h) c.locals.ensures.reads

pub returns-in-None-clause-reads : goal.returns-in-None-clause-reads
returns-in-None-clause-reads c = on_ok_always c.known_constants.result _ (local_types c.args.making.now c.args.making.now c.args.self.now.source.now c.args.names.now c.args.raw.now None c.in-None.is (reads_same c.args.making.now))

pub returns-in-Some-clause-full : goal.returns-in-Some-clause-full
returns-in-Some-clause-full c = λ said words k h. IfErr-weaker c.locals.result _ _ (λ e f. subst (λ o. HaveLocalsCause c.args.self.now.source.now words c.args.names.now o e) (sym c.in-Some.is) f) (c.locals.ensures.full said words k h)

pub returns-in-None-clause-full : goal.returns-in-None-clause-full
returns-in-None-clause-full c = λ said words k h. err_with c.known_constants.result _ (λ e. subst (λ o. HaveLocalsCause c.args.self.now.source.now words c.args.names.now o e) (sym c.in-None.is) tt)

pub returns-in-Some-clause-other : goal.returns-in-Some-clause-other
returns-in-Some-clause-other c = λ said defs given rows words r. IfErr-weaker c.locals.result _ _
    (λ e f. subst (λ o. HaveLocalsTypeCause c.args.self.now.source.now said defs given rows c.args.names.now o e) (sym c.in-Some.is) f) (c.locals.ensures.other said defs given rows words r)

pub returns-in-None-clause-other : goal.returns-in-None-clause-other
returns-in-None-clause-other c = λ said defs given rows words r. err_with c.known_constants.result _ (λ e. subst (λ o. HaveLocalsTypeCause c.args.self.now.source.now said defs given rows c.args.names.now o e) (sym c.in-None.is) tt)

pub returns-in-Some-clause-takes : goal.returns-in-Some-clause-takes
returns-in-Some-clause-takes c = on_ok_weaker c.locals.result (λ h. local_taken c.args.making.now c.locals.new.making c.args.self.now.source.now c.args.names.now c.args.raw.now _ c.in-Some.is h) c.locals.ensures.takes

pub returns-in-None-clause-takes : goal.returns-in-None-clause-takes
returns-in-None-clause-takes c = on_ok_always c.known_constants.result _ (local_taken c.args.making.now c.args.making.now c.args.self.now.source.now c.args.names.now c.args.raw.now None c.in-None.is (takes_same c.args.making.now))
