use Rattle.std.proofs.Common.{◌≡◌, ◌∙◌, true, false, refl, sym, subst, take_all}
use Rattle.std.specs.Prelude.{All}
use Rattle.std.proofs.lemmas.List.Elements.{All-nil, All-more}
use Rattle.lp_sig.specs.Pieces.{spelled}
use Rattle.lp_sig.specs.ModuleFaults.{exports_constant}
use Rattle.lp_sig.specs.declared.module_fault.ModuleSigFault.TheVariants as wrong
use Rattle.lp_sig.proofs.Refusing.{first_of}
use Rattle.lp_sig.proofs.module_lines.ModuleLines.check_locals.Goals as goal

pub loop-name-init : goal.loop-name-init
loop-name-init c = All-nil (λ s. exports_constant c.args.self.now.own.now (spelled c.args.self.now.source.now s) ≡ false)

pub loop-name-preserved : goal.loop-name-preserved
loop-name-preserved c = All-more (λ s. exports_constant c.args.self.now.own.now (spelled c.args.self.now.source.now s) ≡ false) c.args.names.now
    c.loop-name.name-index _ c.loop-name-test.true c.loop-name.invariant (sym c.exports_constant.ensures ∙ c.if-exports_constant.false)

pub returns-then-exports_constant-clause-refused : goal.returns-then-exports_constant-clause-refused
returns-then-exports_constant-clause-refused c = first_of (λ s e. (exports_constant c.args.self.now.own.now (spelled c.args.self.now.source.now s) ≡
    true) × (e ≡ wrong.Exported s)) (λ s. exports_constant c.args.self.now.own.now (spelled c.args.self.now.source.now s) ≡ false) c.args.names.now
    c.loop-name.name-index _ _ c.loop-name-test.true c.loop-name.invariant (sym c.exports_constant.ensures ∙ c.if-exports_constant.true, refl)

pub returns-clause-taken : goal.returns-clause-taken
returns-clause-taken c = subst (All (λ s. exports_constant c.args.self.now.own.now (spelled c.args.self.now.source.now s) ≡ false))
    (take_all c.loop-name.name-index c.args.names.now c.loop-name-test.false) c.loop-name.invariant
