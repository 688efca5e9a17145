use Rattle.std.proofs.Common.{◌≡◌, ◌∙◌, refl, sym, ap, inl, inr, ⊎_elim}
use Rattle.std.specs.Prelude.{◌⊎◌}
use Rattle.lp_lemmas.proofs.Results.{passed_up}
use Rattle.lp_sig.specs.ModuleFaults.{exports_constant, IsLocalFault, is_exported, its_fault, IsNewLocal}
use Rattle.lp_sig.specs.declared.fault.SigFault.TheVariants as fault
use Rattle.lp_sig.specs.declared.module_fault.ModuleSigFault.TheVariants as wrong
use Rattle.std.proofs.Common.{[], ◌∷◌, subst}
use Rattle.lp_term.proofs.Trees.{extends_same}
use Rattle.lp_sig.specs.Differing.{HasNameCause}
use Rattle.lp_sig.specs.inner.Taking.{AreOtherIds}
use Rattle.lp_sig.specs.declared.fault.SigFault.{SigFault}
use Rattle.lp_sig.proofs.Taking.{long_cause, long_not_other, sig_is}
use Rattle.lp_sig.proofs.module_lines.ModuleLines.local.Goals as goal

pub returns-clause-grown : goal.returns-clause-grown
returns-clause-grown c = record { bank = c.declare.ensures.kept; constants = c.in_ok-declare.ensures.grown }

pub returns-then-exports_constant-clause-refused : goal.returns-then-exports_constant-clause-refused
returns-then-exports_constant-clause-refused c = inr (is_exported (sym c.exports_constant.ensures ∙ c.if-exports_constant.true) refl)

pub returns-in_err-check_length-clause-refused : goal.returns-in_err-check_length-clause-refused
returns-in_err-check_length-clause-refused c =
    let l = c.in_err-check_length.ensures.long in
    passed_up c.from_residual.result (wrong.Sig c.in_err-check_length.field-0.0) (λ e. (e ≡ wrong.Sig fault.Memory) ⊎ IsLocalFault
    (exports_constant c.args.self.now.own.now) c.args.self.now.source.now (IsNewLocal c.args.self.now.source.now) c.args.name e)
    c.from_residual.ensures.1
    (inr (its_fault (sym c.exports_constant.ensures ∙ c.if-exports_constant.false) (inl (ap (λ f. wrong.Sig f) l.0, l.1))))

pub returns-in_err-declare-clause-refused : goal.returns-in_err-declare-clause-refused
returns-in_err-declare-clause-refused c =
    passed_up c.from_residual-in_err-declare.result (wrong.Sig c.in_err-declare.field-0.0)
    (λ e. (e ≡ wrong.Sig fault.Memory) ⊎ IsLocalFault (exports_constant c.args.self.now.own.now) c.args.self.now.source.now
    (IsNewLocal c.args.self.now.source.now) c.args.name e) c.from_residual-in_err-declare.ensures.1
    (⊎_elim (λ m. inl (ap (λ f. wrong.Sig f) m)) (λ f. inr (its_fault (sym c.exports_constant.ensures ∙ c.if-exports_constant.false)
    (inr (c.in_ok-check_length.ensures.taken, (c.in_err-declare.field-0.0, f, refl))))) c.in_err-declare.ensures.reason)

pub returns-clause-taken : goal.returns-clause-taken
returns-clause-taken c = ((sym c.exports_constant.ensures ∙ c.if-exports_constant.false), c.in_ok-check_length.ensures.taken)

pub returns-clause-tree : goal.returns-clause-tree
returns-clause-tree c = c.in_ok-declare.ensures.tree

pub returns-clause-adds : goal.returns-clause-adds
returns-clause-adds c = c.in_ok-declare.ensures.adds

pub returns-clause-bank : goal.returns-clause-bank
returns-clause-bank c = c.declare.ensures.kept

pub returns-then-exports_constant-clause-bank : goal.returns-then-exports_constant-clause-bank
returns-then-exports_constant-clause-bank c = extends_same c.args.making.now.bodies.types.bank

pub returns-in_err-check_length-clause-bank : goal.returns-in_err-check_length-clause-bank
returns-in_err-check_length-clause-bank c = extends_same c.args.making.now.bodies.types.bank

pub returns-in_err-declare-clause-bank : goal.returns-in_err-declare-clause-bank
returns-in_err-declare-clause-bank c = c.declare.ensures.kept

pub returns-then-exports_constant-clause-full : goal.returns-then-exports_constant-clause-full
returns-then-exports_constant-clause-full c = λ words h f e. absurd (cc)

pub returns-in_err-check_length-clause-full : goal.returns-in_err-check_length-clause-full
returns-in_err-check_length-clause-full c = λ words h.
    passed_up c.from_residual.result (wrong.Sig c.in_err-check_length.field-0.0) (λ e. (f : SigFault) → e ≡ wrong.Sig f → HasNameCause c.args.self.now.source.now words (c.args.name ∷ []) f) c.from_residual.ensures.1
    (λ f e. long_cause c.args.self.now.source.now words (c.args.name ∷ []) f (sym (sig_is c.in_err-check_length.field-0.0 f e) ∙ c.in_err-check_length.ensures.long.0))

pub returns-in_err-declare-clause-full : goal.returns-in_err-declare-clause-full
returns-in_err-declare-clause-full c = λ words h.
    passed_up c.from_residual-in_err-declare.result (wrong.Sig c.in_err-declare.field-0.0) (λ e. (f : SigFault) → e ≡ wrong.Sig f → HasNameCause c.args.self.now.source.now words (c.args.name ∷ []) f) c.from_residual-in_err-declare.ensures.1
    (λ f e. subst (HasNameCause c.args.self.now.source.now words (c.args.name ∷ [])) (sig_is c.in_err-declare.field-0.0 f e) (c.in_err-declare.ensures.full words h))

pub returns-then-exports_constant-clause-other : goal.returns-then-exports_constant-clause-other
returns-then-exports_constant-clause-other c = λ words h f e. absurd (cc)

pub returns-in_err-check_length-clause-other : goal.returns-in_err-check_length-clause-other
returns-in_err-check_length-clause-other c = λ words h.
    passed_up c.from_residual.result (wrong.Sig c.in_err-check_length.field-0.0)
    (λ e. (f : SigFault) → e ≡ wrong.Sig f → AreOtherIds c.args.self.now.source.now c.args.making.now.bodies.types.bank c.args.making.now.constants (c.args.name ∷ []) c.args.declared f) c.from_residual.ensures.1
    (λ f e z is. absurd (long_not_other f z (sym (sig_is c.in_err-check_length.field-0.0 f e) ∙ c.in_err-check_length.ensures.long.0) is))

pub returns-in_err-declare-clause-other : goal.returns-in_err-declare-clause-other
returns-in_err-declare-clause-other c = λ words h.
    passed_up c.from_residual-in_err-declare.result (wrong.Sig c.in_err-declare.field-0.0)
    (λ e. (f : SigFault) → e ≡ wrong.Sig f → AreOtherIds c.args.self.now.source.now c.declare.new.types.bank c.args.making.now.constants (c.args.name ∷ []) c.args.declared f) c.from_residual-in_err-declare.ensures.1
    (λ f e. subst (AreOtherIds c.args.self.now.source.now c.declare.new.types.bank c.args.making.now.constants (c.args.name ∷ []) c.args.declared) (sig_is c.in_err-declare.field-0.0 f e) (c.in_err-declare.ensures.other words h))
