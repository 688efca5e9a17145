use Rattle.std.proofs.Common.{refl, sym, subst, take, arith, ◌+◌}
use Rattle.std.proofs.lemmas.List.{take_all}
use Rattle.lp_fixity.specs.Table.{entry_of}
use Rattle.lp_syntax.specs.Modules.{DeclaresOne}
use Rattle.lp_sig.specs.Pieces.{spelled}
use Rattle.lp_build.specs.Sights.{DeclareAll, declare_none, declare_more}
use Rattle.lp_build.proofs.Signing.{first_ones}
use Rattle.lp_lemmas.proofs.Results.{passed_up}
use Rattle.lp_build.specs.Refused.{IsFileFault}
use Rattle.lp_build.specs.inner.Refusing.{IsTold}
use Rattle.lp_build.proofs.Texting.{file_told}
use Rattle.lp_build.proofs.texts.declare_all.Goals as goal

pub loop-at-init : goal.loop-at-init
loop-at-init c = declare_none (entry_of c.args.table.now) (λ name. refl)

pub loop-at-preserved : goal.loop-at-preserved
loop-at-preserved c =
    let lines = c.args.file.now.text.references.fixities.items in
    declare_more (take c.loop-at.at lines) (take (c.loop-at.at + 1) lines) c.index-line.result.now (entry_of c.loop-at.table) (entry_of c.declare_one.new.table) c.loop-at.invariant
    (subst (λ s. DeclaresOne (spelled s c.index-line.result.now.name) (c.index-line.result.now.fixity, c.index-line.result.now.number)
    (entry_of c.loop-at.table) (entry_of c.declare_one.new.table)) c.as_slice.ensures.value c.in_ok-declare_one.ensures.declared)
    (sym (first_ones lines c.loop-at.at c.index-line.result.now (omega (arith, c.loop-at-test.true, c.len-at-end.ensures, c.args.file.now.text.references.fixities.ok)) c.index-line.ensures))

pub returns-clause-declared : goal.returns-clause-declared
returns-clause-declared c =
    subst (λ l. DeclareAll c.args.file.now.text.bytes.items (entry_of c.args.table.now) l (entry_of c.loop-at.table))
    (take_all c.loop-at.at c.args.file.now.text.references.fixities.items (omega
    (arith, c.loop-at-test.false, c.len-at-end.ensures, c.args.file.now.text.references.fixities.ok))) c.loop-at.invariant

pub returns-in_err-declare_one-clause-cause : goal.returns-in_err-declare_one-clause-cause
returns-in_err-declare_one-clause-cause c =
    passed_up c.from_residual.result c.in_err-declare_one.field-0.0 (IsTold (IsFileFault (entry_of c.args.table.now) c.args.file.now)) c.from_residual.ensures.1
    (file_told (entry_of c.args.table.now) (entry_of c.loop-at.table) c.args.file.now c.loop-at.at c.index-line.result.now c.as_slice.result.now c.in_err-declare_one.field-0.0
    (omega (arith, c.loop-at-test.true, c.len-at-end.ensures, c.args.file.now.text.references.fixities.ok)) c.index-line.ensures c.as_slice.ensures.value c.loop-at.invariant
    c.in_err-declare_one.ensures.cause)
