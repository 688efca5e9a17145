use Rattle.std.proofs.Common.{◌∙◌, ap, sym, arith}
use Rattle.std.proofs.lemmas.Option.{slice_get-get_or}
use Rattle.std.specs.Prelude.{Some}
use Rattle.lp_standard.specs.Schemes.{scheme}
use Rattle.lp_model.specs.Readings.{declared_by, scheme_of}
use Rattle.lp_cert.proofs.Filled.{standard_declared, program_declared, type_of_constant}
use Rattle.lp_cert.proofs.Missing.{number_missing, past_missing, none_type, none_of_constant, none_always, found_inside}
use Rattle.lp_cert.proofs.schemes.constant_type.Goals as goal

pub returns-in-Some-clause-type_is : goal.returns-in-Some-clause-type_is
returns-in-Some-clause-type_is c =
    type_of_constant _ _ c.args.types.now c.standard_type.result (λ b. scheme c.in-Some.standard) (λ b. declared_by b c.args.constants.now c.args.constant)
    (λ b. standard_declared b c.args.constants.now c.args.constant c.in-Some.standard c.if-constant-lt-FIRST_CONSTANT.true (sym c.in-Some.ensures)) c.standard_type.ensures.type_is

pub returns-in-Some-get-clause-type_is : goal.returns-in-Some-get-clause-type_is
returns-in-Some-get-clause-type_is c =
    type_of_constant _ _ c.args.types.now c.declared_type.result (λ b. Some (scheme_of b c.in-Some-get.declared.now)) (λ b. declared_by b c.args.constants.now c.args.constant)
    (λ b. program_declared b c.args.constants.now c.args.constant c.in-Some-get.declared.now (omega (arith, c.if-constant-lt-FIRST_CONSTANT.false))
    (slice_get-get_or c.args.constants.now _ _ c.in-Some-get.ensures.lookup.3.0 ∙ ap Some (sym c.in-Some-get.ensures.lookup.1))) c.declared_type.ensures.type_is

pub returns-in-None-clause-none : goal.returns-in-None-clause-none
returns-in-None-clause-none c = λ e i b. none_type b c.args.types.now _ (number_missing b c.args.constants.now c.args.constant c.if-constant-lt-FIRST_CONSTANT.true (sym c.in-None.ensures))

pub returns-in-Some-clause-none : goal.returns-in-Some-clause-none
returns-in-Some-clause-none c =
    none_always c.args.types.now c.standard_type.result _ (λ b. scheme c.in-Some.standard) (λ b. declared_by b c.args.constants.now c.args.constant)
    (λ b. standard_declared b c.args.constants.now c.args.constant c.in-Some.standard c.if-constant-lt-FIRST_CONSTANT.true (sym c.in-Some.ensures)) c.standard_type.ensures.none

pub returns-in-Some-get-clause-none : goal.returns-in-Some-get-clause-none
returns-in-Some-get-clause-none c =
    let found = slice_get-get_or c.args.constants.now _ _ c.in-Some-get.ensures.lookup.3.0 ∙ ap Some (sym c.in-Some-get.ensures.lookup.1) in
    none_of_constant c.args.types.now c.declared_type.result _ _ (λ b. Some (scheme_of b c.in-Some-get.declared.now)) (λ b. declared_by b c.args.constants.now c.args.constant)
    (λ b. program_declared b c.args.constants.now c.args.constant c.in-Some-get.declared.now (omega (arith, c.if-constant-lt-FIRST_CONSTANT.false)) found) (found_inside _ c.args.constants.now _ c.in-Some-get.declared.now found) c.declared_type.ensures.none

pub returns-in-None-get-clause-none : goal.returns-in-None-get-clause-none
returns-in-None-get-clause-none c = λ e i b. none_type b c.args.types.now _ (past_missing b c.args.constants.now c.args.constant (omega (arith, c.if-constant-lt-FIRST_CONSTANT.false)) c.in-None-get.ensures.lookup.3)
