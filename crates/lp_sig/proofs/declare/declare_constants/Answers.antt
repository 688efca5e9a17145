use Rattle.lp_sig.proofs.Reading.{reads_typed}
use Rattle.std.proofs.lemmas.Result.{IfErr-weaker, on_ok_weaker}
use Rattle.lp_lemmas.proofs.Results.{passed_up, on_ok_both}
use Rattle.lp_sig.specs.Constants.{written_in, IsTyped, IsConstantsFault}
use Rattle.lp_sig.proofs.Constancy.{constants_kept}
use Rattle.lp_sig.proofs.Sentences.{ok_with}
use Rattle.lp_sig.proofs.SoundSentences.{uses_settled}
use Rattle.lp_sig.proofs.Declarations.{as_typed, few_variables, refused_long, refused_type, refused_name, declared_all}
use Rattle.std.proofs.Common.{◌≡◌, inl, inr, ⊎_elim, refl}
use Rattle.std.specs.Prelude.{◌⊎◌}
use Rattle.lp_sig.specs.ModuleFaults as faults
use Rattle.lp_sig.specs.declared.fault.SigFault.TheVariants as fault
use Rattle.lp_term.proofs.Trees.{extends-trans}
use Rattle.lp_sig.specs.Differing.{HasNameCause, HasTypeCause}
use Rattle.lp_sig.proofs.Taking.{err_both, long_cause, long_type_cause, type_cause, written_cause, new_not_long, other_written, typed_inside, takes_typed}
use Rattle.lp_sig.proofs.declare.declare_constants.Goals as goal

pub returns-in_err-check_lengths-clause-exact : goal.returns-in_err-check_lengths-clause-exact
returns-in_err-check_lengths-clause-exact c = λ from z rows k b s kc t.
    passed_up c.from_residual.result c.in_err-check_lengths.field-0.0 (IsConstantsFault from c.args.source.now z rows c.args.spots.now c.args.raw.now) c.from_residual.ensures.1
    (refused_long from c.args.source.now z rows c.args.spots.now c.args.raw.now c.in_err-check_lengths.field-0.0 c.in_err-check_lengths.ensures.long)

pub returns-in_err-declared-clause-exact : goal.returns-in_err-declared-clause-exact
returns-in_err-declared-clause-exact c = λ from z rows k b s kc t.
    passed_up c.from_residual-in_err-declared.result c.in_err-declared.field-0.0 (IsConstantsFault from c.args.source.now z rows c.args.spots.now
    c.args.raw.now) c.from_residual-in_err-declared.ensures.1
    (refused_type from c.args.source.now z rows c.args.spots.now c.args.raw.now c.in_err-declared.field-0.0 c.in_ok-check_lengths.ensures.taken
    (c.in_err-declared.ensures.exact z.said z.definitions k b))

pub returns-clause-constants : goal.returns-clause-constants
returns-clause-constants c = on_ok_weaker c.declare_all.result (λ h said defs rows k b kc.
    let w = written_in c.args.source.now c.args.raw.now in
    let now = c.scheme.new.self.types.bank in
    h said defs rows w (constants_kept c.args.bodies.now.types.bank now c.args.constants.now said defs rows c.scheme.ensures.kept kc)
    (as_typed c.in_ok-declared.declared (IsTyped now said defs w) (c.in_ok-declared.ensures.typed said defs k b))) c.declare_all.ensures.known

pub returns-clause-exact : goal.returns-clause-exact
returns-clause-exact c = λ from z rows k b s kc t.
    let text = c.args.source.now in
    let ty = c.args.raw.now in
    IfErr-weaker c.declare_all.result _ (IsConstantsFault from text z rows c.args.spots.now ty)
    (λ e f. refused_name from text z rows c.args.spots.now ty c.args.bodies.now.types.bank c.scheme.new.self.types.bank c.args.constants.now
    c.in_ok-declared.declared c.scheme.ensures.kept kc (c.in_ok-declared.ensures.typed z.said z.definitions k b) t e
    c.in_ok-check_lengths.ensures.taken (c.in_ok-declared.ensures.stand z.said k) c.in_ok-declared.ensures.few f) c.declare_all.ensures.why

pub returns-clause-few : goal.returns-clause-few
returns-clause-few c = λ from z k b s.
    let text = c.args.source.now in
    let ty = c.args.raw.now in
    ok_with c.declare_all.result _ (λ stands. few_variables c.scheme.new.self.types.bank z.said z.definitions (written_in text ty) c.in_ok-declared.declared
    (c.in_ok-declared.ensures.settled z.said k (uses_settled from z c.args.bodies.now.bodies.items text ty s stands)) c.in_ok-declared.ensures.few
    (c.in_ok-declared.ensures.typed z.said z.definitions k b))

pub returns-clause-declared : goal.returns-clause-declared
returns-clause-declared c = λ from z rows k b s kc t.
    let text = c.args.source.now in
    let ty = c.args.raw.now in
    declared_all from text z rows c.args.spots.now ty c.args.bodies.now.types.bank c.scheme.new.self.types.bank c.args.constants.now
    c.in_ok-declared.declared c.scheme.ensures.kept kc (c.in_ok-declared.ensures.typed z.said z.definitions k b) t
    c.declare_all.result c.declare_all.new.self (λ stands. c.in_ok-declared.ensures.settled z.said k
    (uses_settled from z c.args.bodies.now.bodies.items text ty s stands)) c.declare_all.ensures.typed c.declare_all.ensures.taken

pub returns-clause-grown : goal.returns-clause-grown
returns-clause-grown c = c.declare_all.ensures.grown

pub returns-in_err-check_lengths-clause-reason : goal.returns-in_err-check_lengths-clause-reason
returns-in_err-check_lengths-clause-reason c = λ said k.
    let l = c.in_err-check_lengths.ensures.long in
    passed_up c.from_residual.result c.in_err-check_lengths.field-0.0 (λ e. (e ≡ fault.Memory) ⊎ faults.AreConstantsWrong c.args.source.now said
    c.args.spots.now c.args.raw.now e) c.from_residual.ensures.1
    (inr (faults.a_long_name l.0 l.1.0 l.1.1 l.1.2))

pub returns-in_err-declared-clause-reason : goal.returns-in_err-declared-clause-reason
returns-in_err-declared-clause-reason c = λ said k.
    passed_up c.from_residual-in_err-declared.result c.in_err-declared.field-0.0 (λ e. (e ≡ fault.Memory) ⊎ faults.AreConstantsWrong c.args.source.now
    said c.args.spots.now c.args.raw.now e) c.from_residual-in_err-declared.ensures.1
    (⊎_elim (λ m. inl m) (λ f. inr (faults.a_bad_type c.in_ok-check_lengths.ensures.taken f)) (c.in_err-declared.ensures.reason said k))

pub returns-clause-reason : goal.returns-clause-reason
returns-clause-reason c = λ said k. IfErr-weaker c.declare_all.result _ (λ e. (e ≡ fault.Memory) ⊎ faults.AreConstantsWrong c.args.source.now said c.args.spots.now c.args.raw.now e)
    (λ e f. ⊎_elim (λ m. inl m) (λ n. inr (faults.a_bad_name c.in_ok-check_lengths.ensures.taken (c.in_ok-declared.ensures.stand said k) n)) f) c.declare_all.ensures.reason

pub returns-clause-reads : goal.returns-clause-reads
returns-clause-reads c = on_ok_both c.declare_all.result c.declare_all.ensures.trees c.declare_all.ensures.words (λ trees words.
    reads_typed c.args.names.now c.args.bodies.now c.scheme.new.self _ c.args.constants.now c.declare_all.new.self c.args.source.now c.args.raw.now c.args.spots.now c.in_ok-declared.declared
    c.scheme.ensures.kept c.declare_all.ensures.kept c.scheme.ensures.bodies refl
    (λ said k uses. c.in_ok-declared.ensures.settled said k uses) c.in_ok-declared.ensures.typed trees words)

pub returns-in_err-check_lengths-clause-full : goal.returns-in_err-check_lengths-clause-full
returns-in_err-check_lengths-clause-full c = λ said words k h. passed_up c.from_residual.result c.in_err-check_lengths.field-0.0 (HasNameCause c.args.source.now words c.args.spots.now) c.from_residual.ensures.1
    (long_cause c.args.source.now words c.args.spots.now c.in_err-check_lengths.field-0.0 c.in_err-check_lengths.ensures.long.0)

pub returns-in_err-declared-clause-full : goal.returns-in_err-declared-clause-full
returns-in_err-declared-clause-full c = λ said words k h. passed_up c.from_residual-in_err-declared.result c.in_err-declared.field-0.0 (HasNameCause c.args.source.now words c.args.spots.now) c.from_residual-in_err-declared.ensures.1
    (type_cause c.args.source.now words c.args.spots.now said c.args.raw.now c.in_err-declared.field-0.0 (c.in_err-declared.ensures.reason said k))

pub returns-clause-full : goal.returns-clause-full
returns-clause-full c = λ said words k h. c.declare_all.ensures.full words h

pub returns-in_err-check_lengths-clause-other : goal.returns-in_err-check_lengths-clause-other
returns-in_err-check_lengths-clause-other c = λ said defs given rows words r.
    passed_up c.from_residual.result c.in_err-check_lengths.field-0.0 (HasTypeCause c.args.source.now said defs given rows c.args.spots.now c.args.raw.now) c.from_residual.ensures.1
    (long_type_cause c.args.source.now said defs c.args.raw.now given rows c.args.spots.now c.in_err-check_lengths.field-0.0 c.in_err-check_lengths.ensures.long.0)

pub returns-in_err-declared-clause-other : goal.returns-in_err-declared-clause-other
returns-in_err-declared-clause-other c = λ said defs given rows words r.
    passed_up c.from_residual-in_err-declared.result c.in_err-declared.field-0.0 (HasTypeCause c.args.source.now said defs given rows c.args.spots.now c.args.raw.now) c.from_residual-in_err-declared.ensures.1
    (written_cause c.args.source.now said defs c.args.raw.now given rows c.args.spots.now c.in_err-declared.field-0.0 (c.in_err-declared.ensures.reason said r.knows) (c.in_err-declared.ensures.exact said defs r.knows r.holds))

pub returns-clause-other : goal.returns-clause-other
returns-clause-other c = λ said defs given rows words r.
    let text = c.args.source.now in
    let names = c.args.spots.now in
    let b = c.args.bodies.now.types.bank in
    let mid = c.scheme.new.self.types.bank in
    let now = c.declare_all.new.types.bank in
    let typed = c.in_ok-declared.ensures.typed said defs r.knows r.holds in
    err_both c.declare_all.result _ _ (HasTypeCause text said defs given rows names c.args.raw.now)
    (λ f o n. other_written b mid now c.args.constants.now said defs given rows text names c.args.raw.now c.in_ok-declared.declared f (extends-trans b mid now c.scheme.ensures.kept c.declare_all.ensures.kept) c.declare_all.ensures.kept r.types typed o (new_not_long names f n))
    (c.declare_all.ensures.other words (typed_inside mid said defs (written_in text c.args.raw.now) c.in_ok-declared.declared typed) r.met) c.declare_all.ensures.reason

pub returns-clause-takes : goal.returns-clause-takes
returns-clause-takes c = on_ok_both c.declare_all.result c.declare_all.ensures.adds c.declare_all.ensures.words (λ adds words.
    takes_typed c.args.names.now c.args.bodies.now c.scheme.new.self _ c.args.constants.now c.declare_all.new.self c.args.source.now c.args.raw.now c.args.spots.now c.in_ok-declared.declared
    c.scheme.ensures.kept c.declare_all.ensures.kept c.scheme.ensures.bodies refl c.in_ok-declared.ensures.typed adds words)
