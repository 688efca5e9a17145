use Rattle.std.proofs.Common.{◌≤◌, length, sym, subst, arith}
use Rattle.lp_base.specs.declared.limits.TheConstants.{MAX_MODULES}
use Rattle.lp_judge.specs.inner.Negations.{HasFirstFile}
use Rattle.lp_judge.proofs.Negations.{all_files, first_file}
use Rattle.lp_judge.proofs.unsupported.not_in_files.Goals as goal

pub returns-in-Some-2 : goal.returns-in-Some-2
returns-in-Some-2 c = λ read.
    subst (HasFirstFile c.args.sources.now.files.items) (sym c.spot_of.ensures)
    (first_file c.args.sources.now.files.items c.loop-number.number c.in-Some.field-0-0.now c.in-Some.text.now c.in-Some-2.token
    c.in-Some.ensures.found (rw c.in-Some-2.is at c.in_ok-token.ensures) c.loop-number.invariant)

pub returns : goal.returns
returns c = λ read.
    let few = read.few in
    let most : MAX_MODULES ≤ 4096 = omega arith in
    all_files c.args.sources.now.files.items c.loop-number.number (omega (arith, few, most, c.loop-number-test.false)) c.loop-number.invariant
