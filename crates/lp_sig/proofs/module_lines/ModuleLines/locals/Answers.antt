use Rattle.lp_sig.proofs.Reading.{on_ok_three, reads_typed}
use Rattle.std.proofs.lemmas.Result.{on_ok_weaker}
use Rattle.lp_term.proofs.Trees.{extends-trans}
use Rattle.std.proofs.Common.{inl, inr, ⊎_elim, ◌∙◌}
use Rattle.std.proofs.lemmas.Result.{IfErr-weaker, IfOk-weaker}
use Rattle.lp_sig.specs.ModuleFaults as faults
use Rattle.std.proofs.Common.{◌≡◌}
use Rattle.lp_lemmas.proofs.Results.{on_ok_both}
use Rattle.lp_sig.specs.Constants.{written_in}
use Rattle.lp_sig.specs.Differing.{HasTypeCause}
use Rattle.lp_sig.specs.declared.fault.SigFault.{SigFault}
use Rattle.lp_sig.specs.declared.module_fault.ModuleSigFault.TheVariants as wrong
use Rattle.lp_sig.specs.Limits.{IsShort}
use Rattle.lp_sig.specs.ModuleFaults.{exports_constant, IsLocal}
use Rattle.lp_sig.proofs.Taking.{err_both, told_cause, told_type_cause, local_not_long, other_written, typed_inside, takes_typed}
use Rattle.lp_sig.proofs.module_lines.ModuleLines.locals.Goals as goal

pub returns-in-Ok-clause-grown : goal.returns-in-Ok-clause-grown
returns-in-Ok-clause-grown c =
    on_ok_weaker c.locals_of.result (λ g. record {
      bank = extends-trans c.args.making.now.bodies.types.bank c.scheme.new.self.types.bank
          c.locals_of.new.making.bodies.types.bank c.scheme.ensures.kept g.bank;
      constants = g.constants;
    }) c.locals_of.ensures.grown

pub returns-in-Err-clause-refused : goal.returns-in-Err-clause-refused
returns-in-Err-clause-refused c = λ said k. c.wrong_locals.ensures.wrong said c.args.raw.now (c.in-Err.ensures.reason said k)

pub returns-in-Ok-clause-refused : goal.returns-in-Ok-clause-refused
returns-in-Ok-clause-refused c = λ said k. IfErr-weaker c.locals_of.result _ _ (λ e f. ⊎_elim (λ m. inl m)
    (λ g. inr (faults.local_name (c.in-Ok.ensures.stand said k) g)) f) c.locals_of.ensures.refused

pub returns-in-Ok-clause-taken : goal.returns-in-Ok-clause-taken
returns-in-Ok-clause-taken c = λ said k. IfOk-weaker c.locals_of.result _ _ (λ done t. (t, c.in-Ok.ensures.stand said k)) c.locals_of.ensures.taken

pub returns-in-Ok-clause-kept : goal.returns-in-Ok-clause-kept
returns-in-Ok-clause-kept c = c.locals_of.ensures.kept ∙ c.scheme.ensures.bodies

pub returns-in-Err-clause-kept : goal.returns-in-Err-clause-kept
returns-in-Err-clause-kept c = c.scheme.ensures.bodies

pub returns-in-Ok-clause-reads : goal.returns-in-Ok-clause-reads
returns-in-Ok-clause-reads c = on_ok_three c.locals_of.result c.locals_of.ensures.trees c.locals_of.ensures.words c.locals_of.ensures.grown (λ trees words grown.
    reads_typed c.args.making.now.names c.args.making.now.bodies c.scheme.new.self c.locals_of.new.making.bodies c.args.making.now.constants c.locals_of.new.making.constants c.args.self.now.source.now c.args.raw.now c.args.names.now c.in-Ok.declared
    c.scheme.ensures.kept grown.bank c.scheme.ensures.bodies c.locals_of.ensures.kept
    c.in-Ok.ensures.settled c.in-Ok.ensures.typed trees words)

pub returns-in-Err-clause-full : goal.returns-in-Err-clause-full
returns-in-Err-clause-full c = λ said words k h f e. told_cause c.args.self.now.source.now words c.args.names.now said c.args.raw.now c.in-Err.fault f (c.in-Err.ensures.reason said k) (c.wrong_locals.ensures.told f e)

pub returns-in-Err-clause-other : goal.returns-in-Err-clause-other
returns-in-Err-clause-other c = λ said defs given rows words r f e.
    told_type_cause c.args.self.now.source.now said defs c.args.raw.now given rows c.args.names.now c.in-Err.fault f (c.in-Err.ensures.reason said r.knows) (c.in-Err.ensures.exact said defs r.knows r.holds) (c.wrong_locals.ensures.told f e)

pub returns-in-Ok-clause-full : goal.returns-in-Ok-clause-full
returns-in-Ok-clause-full c = λ said words k h. c.locals_of.ensures.full words h

pub returns-in-Ok-clause-other : goal.returns-in-Ok-clause-other
returns-in-Ok-clause-other c = λ said defs given rows words r.
    let text = c.args.self.now.source.now in
    let names = c.args.names.now in
    let b = c.args.making.now.bodies.types.bank in
    let mid = c.scheme.new.self.types.bank in
    let now = c.locals_of.new.making.bodies.types.bank in
    let typed = c.in-Ok.ensures.typed said defs r.knows r.holds in
    err_both c.locals_of.result _ _ (λ e. (f : SigFault) → e ≡ wrong.Sig f → HasTypeCause text said defs given rows names c.args.raw.now f)
    (λ e g n f is. other_written b mid now c.args.making.now.constants said defs given rows text names c.args.raw.now c.in-Ok.declared f (extends-trans b mid now c.scheme.ensures.kept c.locals_of.ensures.bank) c.locals_of.ensures.bank r.types typed (g f is)
    (local_not_long (exports_constant c.args.self.now.own.now) text (IsLocal (exports_constant c.args.self.now.own.now) text (IsShort text)) names e f n is))
    (c.locals_of.ensures.other words (typed_inside mid said defs (written_in text c.args.raw.now) c.in-Ok.declared typed) r.met) c.locals_of.ensures.refused

pub returns-in-Ok-clause-takes : goal.returns-in-Ok-clause-takes
returns-in-Ok-clause-takes c = on_ok_both c.locals_of.result c.locals_of.ensures.adds c.locals_of.ensures.words (λ adds words.
    takes_typed c.args.making.now.names c.args.making.now.bodies c.scheme.new.self c.locals_of.new.making.bodies c.args.making.now.constants c.locals_of.new.making.constants c.args.self.now.source.now c.args.raw.now c.args.names.now c.in-Ok.declared
    c.scheme.ensures.kept c.locals_of.ensures.bank c.scheme.ensures.bodies c.locals_of.ensures.kept c.in-Ok.ensures.typed adds words)
