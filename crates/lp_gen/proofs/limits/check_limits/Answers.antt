use Rattle.std.proofs.Common.{arith}
use Rattle.lp_lemmas.proofs.Results.{passed_up}
use Rattle.lp_gen.specs.Limits.{IsTold}
use Rattle.lp_gen.specs.inner.Limiting.{counts_of_source}
use Rattle.lp_gen.proofs.LimitsTold.{strings_told, arguments_told, nesting_told, records_told}
use Rattle.lp_gen.proofs.limits.check_limits.Goals as goal

pub returns-clause-within : goal.returns-clause-within
returns-clause-within c =
    let s = c.in_ok-check.ensures.within in
    let a = c.in_ok-check-2.ensures.within in
    let n = c.in_ok-check-3.ensures.within in
    (omega (arith, s), omega (arith, a), omega (arith, n), c.in_ok-check-4.ensures.within)

pub returns-in_err-check-clause-cause : goal.returns-in_err-check-clause-cause
returns-in_err-check-clause-cause c =
    let x = counts_of_source c.args.bank.now c.args.source in
    let e = c.in_err-check.field-0.0 in
    passed_up c.from_residual.result e (IsTold x ⊥) c.from_residual.ensures.1 (strings_told x e c.in_err-check.ensures.cause)

pub returns-in_err-check-2-clause-cause : goal.returns-in_err-check-2-clause-cause
returns-in_err-check-2-clause-cause c =
    let x = counts_of_source c.args.bank.now c.args.source in
    let e = c.in_err-check-2.field-0.0 in
    let s = c.in_ok-check.ensures.within in
    passed_up c.from_residual-in_err-check-2.result e (IsTold x ⊥) c.from_residual-in_err-check-2.ensures.1 (arguments_told x e (omega (arith, s)) c.in_err-check-2.ensures.cause)

pub returns-in_err-check-3-clause-cause : goal.returns-in_err-check-3-clause-cause
returns-in_err-check-3-clause-cause c =
    let x = counts_of_source c.args.bank.now c.args.source in
    let e = c.in_err-check-3.field-0.0 in
    let s = c.in_ok-check.ensures.within in
    let a = c.in_ok-check-2.ensures.within in
    passed_up c.from_residual-in_err-check-3.result e (IsTold x ⊥) c.from_residual-in_err-check-3.ensures.1 (nesting_told x e (omega (arith, s)) (omega (arith, a)) c.in_err-check-3.ensures.cause)

pub returns-in_err-check-4-clause-cause : goal.returns-in_err-check-4-clause-cause
returns-in_err-check-4-clause-cause c =
    let x = counts_of_source c.args.bank.now c.args.source in
    let e = c.in_err-check-4.field-0.0 in
    let s = c.in_ok-check.ensures.within in
    let a = c.in_ok-check-2.ensures.within in
    let n = c.in_ok-check-3.ensures.within in
    passed_up c.from_residual-in_err-check-4.result e (IsTold x ⊥) c.from_residual-in_err-check-4.ensures.1 (records_told x e (omega (arith, s)) (omega (arith, a)) (omega (arith, n)) c.in_err-check-4.ensures.cause)
