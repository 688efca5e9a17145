use Rattle.std.proofs.Common.{◌≡◌, true, false, subst, take_all}
use Rattle.std.specs.Prelude.{All}
use Rattle.std.proofs.lemmas.List.Elements.{All-nil, All-more}
use Rattle.lp_lemmas.proofs.Results.{passed_up}
use Rattle.lp_sig.specs.Pieces.{spelled}
use Rattle.lp_sig.specs.Said.{is_among}
use Rattle.lp_sig.specs.ModuleFaults.{exports_constant, IsLocal, IsLocalFault, IsKnownFault}
use Rattle.lp_sig.specs.declared.module_fault.ModuleSigFault.TheVariants as wrong
use Rattle.lp_sig.proofs.Refusing.{first_of}
use Rattle.lp_sig.proofs.module_lines.ModuleLines.known_constants.Goals as goal

pub loop-name-init : goal.loop-name-init
loop-name-init c = λ known h. All-nil (IsLocal (exports_constant c.args.self.now.own.now) c.args.self.now.source.now (λ s. is_among (spelled c.args.self.now.source.now s) known ≡ true))

pub loop-name-preserved : goal.loop-name-preserved
loop-name-preserved c = λ known h. All-more (IsLocal (exports_constant c.args.self.now.own.now) c.args.self.now.source.now
    (λ s. is_among (spelled c.args.self.now.source.now s) known ≡ true)) c.args.names.now c.loop-name.name-index _ c.loop-name-test.true
    (c.loop-name.invariant known h) (c.in_ok-known_constant.ensures.taken known h)

pub returns-in_err-known_constant-clause-refused : goal.returns-in_err-known_constant-clause-refused
returns-in_err-known_constant-clause-refused c = λ known h.
    passed_up c.from_residual.result c.in_err-known_constant.field-0.0 (IsKnownFault (exports_constant c.args.self.now.own.now)
    (λ s. wrong.Undeclared s) c.args.self.now.source.now known c.args.names.now) c.from_residual.ensures.1
    (first_of (IsLocalFault (exports_constant c.args.self.now.own.now) c.args.self.now.source.now
    (λ s e. (is_among (spelled c.args.self.now.source.now s) known ≡ false) × (e ≡ wrong.Undeclared s)))
    (IsLocal (exports_constant c.args.self.now.own.now) c.args.self.now.source.now
    (λ s. is_among (spelled c.args.self.now.source.now s) known ≡ true))
    c.args.names.now c.loop-name.name-index _ c.in_err-known_constant.field-0.0 c.loop-name-test.true (c.loop-name.invariant known h) (c.in_err-known_constant.ensures.refused known h))

pub returns-clause-taken : goal.returns-clause-taken
returns-clause-taken c = λ known h. subst (All (IsLocal (exports_constant c.args.self.now.own.now) c.args.self.now.source.now
    (λ s. is_among (spelled c.args.self.now.source.now s) known ≡ true))) (take_all c.loop-name.name-index c.args.names.now c.loop-name-test.false)
    (c.loop-name.invariant known h)
