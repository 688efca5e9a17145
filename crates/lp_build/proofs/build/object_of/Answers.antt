use Rattle.std.proofs.Common.{refl, arith}
use Rattle.lp_lemmas.proofs.Results.{passed_up}
use Rattle.lp_build.specs.Limits.{IsUnmade, many_copies, many_names, no_code, unmade_memory}
use Rattle.lp_build.specs.declared.fault.BuildFault.TheVariants as fault
use Rattle.lp_build.proofs.Unmaking.{few_of, many_of}
use Rattle.lp_build.proofs.build.object_of.Goals as goal

pub returns-clause-object : goal.returns-clause-object
returns-clause-object c = λ within. c.in_ok-object.ensures.code within (c.in_ok-object.ensures.names c.in_ok-names.ensures)

pub returns-clause-within : goal.returns-clause-within
returns-clause-within c = λ within. record {
  copies = omega (arith, c.if-len-ge-MAX_COPIES.false, c.len.ensures, c.args.module.uses.ok);
  code = c.in_ok-object.ensures.within within;
  names = few_of c.args.module c.in_ok-object.object (c.in_ok-object.ensures.names c.in_ok-names.ensures) c.in_ok-check_names.ensures.within;
}

pub returns-then-len-ge-MAX_COPIES-clause-cause : goal.returns-then-len-ge-MAX_COPIES-clause-cause
returns-then-len-ge-MAX_COPIES-clause-cause c = λ within. many_copies (omega (arith, c.if-len-ge-MAX_COPIES.true, c.len.ensures, c.args.module.uses.ok)) refl

pub returns-in_err-names-clause-cause : goal.returns-in_err-names-clause-cause
returns-in_err-names-clause-cause c = λ within. passed_up c.from_residual.result fault.Memory (IsUnmade c.args.module) c.from_residual.ensures.1 (unmade_memory refl)

pub returns-in_err-object-clause-cause : goal.returns-in_err-object-clause-cause
returns-in_err-object-clause-cause c = λ within.
    passed_up c.from_residual-in_err-object.result c.in_err-object.field-0.0 (IsUnmade c.args.module) c.from_residual-in_err-object.ensures.1 (no_code (omega (arith, c.if-len-ge-MAX_COPIES.false, c.len.ensures, c.args.module.uses.ok)) (c.in_err-object.ensures.cause within))

pub returns-in_err-check_names-clause-cause : goal.returns-in_err-check_names-clause-cause
returns-in_err-check_names-clause-cause c = λ within.
    let told = c.in_err-check_names.ensures.cause in
    passed_up c.from_residual-in_err-check_names.result c.in_err-check_names.field-0.0 (IsUnmade c.args.module) c.from_residual-in_err-check_names.ensures.1
    (many_names (omega (arith, c.if-len-ge-MAX_COPIES.false, c.len.ensures, c.args.module.uses.ok)) (c.in_ok-object.ensures.within within) (many_of c.args.module c.in_ok-object.object (c.in_ok-object.ensures.names c.in_ok-names.ensures) told.1) told.0)
