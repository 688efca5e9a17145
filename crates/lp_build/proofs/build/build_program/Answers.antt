use Rattle.std.proofs.Common.{refl, Ok}
use Rattle.lp_lemmas.proofs.Results.{passed_up}
use Rattle.lp_build.specs.Faults.{IsOfTexts}
use Rattle.lp_build.specs.Refused.{IsRefusedProgram, no_memory, of_modules, of_whole}
use Rattle.lp_build.proofs.Building.{built_is}
use Rattle.lp_build.proofs.Causing.{codes_layer, modules_layer, program_layer}
use Rattle.lp_build.proofs.Imaging.{modules_within}
use Rattle.lp_build.proofs.build.build_program.Goals as goal

pub returns-clause-program : goal.returns-clause-program
returns-clause-program c = λ read.
    let whole = c.in_ok-whole.ensures.whole read in
    let meanings = c.in_ok-modules.ensures.meanings c.args.sources.now.files.items whole in
    built_is c.args.sources.now c.in_ok-whole.whole c.in_ok-modules.modules.items c.in-Some.own.now (Ok c.in_ok-built.built) whole
    meanings (c.in-Some.ensures c.args.sources.now.files.items whole) (c.in_ok-check_codes.ensures.within (modules_within meanings.meanings)) c.in_ok-built.ensures.program

pub returns-in_err-whole-clause-cause : goal.returns-in_err-whole-clause-cause
returns-in_err-whole-clause-cause c = λ read.
    passed_up c.from_residual.result c.in_err-whole.field-0.0 (IsRefusedProgram c.args.sources.now) c.from_residual.ensures.1 (of_modules (of_whole (c.in_err-whole.ensures.cause read)))

pub returns-in_err-modules-clause-cause : goal.returns-in_err-modules-clause-cause
returns-in_err-modules-clause-cause c = λ read.
    let whole = c.in_ok-whole.ensures.whole read in
    passed_up c.from_residual-in_err-modules.result c.in_err-modules.field-0.0 (IsRefusedProgram c.args.sources.now) c.from_residual-in_err-modules.ensures.1
    (of_modules (modules_layer c.args.sources.now c.in_ok-whole.whole c.in_err-modules.field-0.0 whole (c.in_err-modules.ensures.cause c.args.sources.now.files.items whole)))

pub returns-in_default-clause-cause : goal.returns-in_default-clause-cause
returns-in_default-clause-cause c = λ read. of_modules (of_whole (no_memory refl))

pub returns-in_err-built-clause-cause : goal.returns-in_err-built-clause-cause
returns-in_err-built-clause-cause c = λ read.
    let whole = c.in_ok-whole.ensures.whole read in
    passed_up c.from_residual-in_err-built.result c.in_err-built.field-0.0 (IsRefusedProgram c.args.sources.now) c.from_residual-in_err-built.ensures.1
    (program_layer c.args.sources.now c.in_ok-whole.whole c.in_ok-modules.modules.items c.in_err-built.field-0.0 whole (c.in_ok-modules.ensures.meanings c.args.sources.now.files.items whole) c.in_err-built.ensures.cause)

pub returns-in_err-check_codes-clause-cause : goal.returns-in_err-check_codes-clause-cause
returns-in_err-check_codes-clause-cause c = λ read.
    let whole = c.in_ok-whole.ensures.whole read in
    let meanings = c.in_ok-modules.ensures.meanings c.args.sources.now.files.items whole in
    passed_up c.from_residual-in_err-check_codes.result c.in_err-check_codes.field-0.0 (IsRefusedProgram c.args.sources.now) c.from_residual-in_err-check_codes.ensures.1
    (codes_layer c.args.sources.now c.in_ok-whole.whole c.in_ok-modules.modules.items c.in-Some.own.now c.in_ok-built.built c.in_err-check_codes.field-0.0 whole meanings c.in_ok-built.ensures.program
    (c.in_err-check_codes.ensures.cause (modules_within meanings.meanings)))

pub returns-in_err-check_codes-clause-refused : goal.returns-in_err-check_codes-clause-refused
returns-in_err-check_codes-clause-refused c = passed_up c.from_residual-in_err-check_codes.result c.in_err-check_codes.field-0.0 IsOfTexts c.from_residual-in_err-check_codes.ensures.1
    c.in_err-check_codes.ensures.refused
