use Rattle.std.proofs.Common.{◌∙◌, refl, sym, subst, arith, ◌+◌, length, ◌≡◌}
use Rattle.std.specs.Prelude.{Contains}
use Rattle.lp_fixity.specs.Table.{entry_of}
use Rattle.lp_build.specs.Sights.{InForce, standard_ones, seen_file, other_file}
use Rattle.lp_build.proofs.Sets.{found_there, there_found}
use Rattle.lp_lemmas.proofs.Results.{passed_up}
use Rattle.lp_build.specs.Refused.{IsUndeclarable}
use Rattle.lp_build.specs.inner.Refusing.{IsTold}
use Rattle.lp_build.proofs.Texting.{seen_told}
use Rattle.lp_build.proofs.texts.declare_seen.Goals as goal

pub loop-other-init : goal.loop-other-init
loop-other-init c = λ h. standard_ones (entry_of c.args.table.now) h

pub loop-other-preserved-then-not-contains : goal.loop-other-preserved-then-not-contains
loop-other-preserved-then-not-contains c = λ h. other_file c.loop-other.other (c.loop-other.other + 1) (entry_of c.loop-other.table)
    (c.loop-other.invariant h) (there_found c.args.seen.now.keys c.loop-other.other (sym c.contains.ensures ∙ c.if-not-contains.true)) refl

pub loop-other-preserved : goal.loop-other-preserved
loop-other-preserved c = λ h.
    seen_file c.loop-other.other (c.loop-other.other + 1) c.index-file.result.now (entry_of c.loop-other.table) (entry_of c.declare_all.new.table) (c.loop-other.invariant h)
    (omega (arith, c.loop-other-test.true, c.len-other-end.ensures, c.args.sources.now.files.ok), sym c.index-file.ensures)
    (found_there c.args.seen.now.keys c.loop-other.other (sym c.contains.ensures ∙ c.if-not-contains.false)) c.in_ok-declare_all.ensures.declared refl

pub returns-clause-force : goal.returns-clause-force
returns-clause-force c = λ h.
    let n : c.loop-other.other ≡ length c.args.sources.now.files.items = omega (arith, c.loop-other-test.false, c.loop-other.auto.other-end, c.len-other-end.ensures, c.args.sources.now.files.ok) in
    subst (λ n. InForce c.args.sources.now.files.items (Contains c.args.seen.now.keys) n (entry_of c.loop-other.table)) n (c.loop-other.invariant h)

pub returns-in_err-declare_all-clause-cause : goal.returns-in_err-declare_all-clause-cause
returns-in_err-declare_all-clause-cause c = λ h.
    passed_up c.from_residual.result c.in_err-declare_all.field-0.0 (IsTold (IsUndeclarable c.args.sources.now.files.items (Contains c.args.seen.now.keys))) c.from_residual.ensures.1
    (seen_told c.args.sources.now.files.items (Contains c.args.seen.now.keys) c.loop-other.other c.index-file.result.now (entry_of c.loop-other.table) c.in_err-declare_all.field-0.0
    (omega (arith, c.loop-other-test.true, c.len-other-end.ensures, c.args.sources.now.files.ok), sym c.index-file.ensures)
    (found_there c.args.seen.now.keys c.loop-other.other (sym c.contains.ensures ∙ c.if-not-contains.false)) (c.loop-other.invariant h) c.in_err-declare_all.ensures.cause)
