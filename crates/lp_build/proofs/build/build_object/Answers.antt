use Rattle.lp_lemmas.proofs.Results.{passed_up}
use Rattle.lp_build.specs.Unmade.{IsRefusedObject, no_texts}
use Rattle.lp_build.proofs.Compiling.{compiled_is}
use Rattle.lp_build.proofs.Unmaking.{file_layer, object_layer}
use Rattle.lp_build.proofs.build.build_object.Goals as goal

pub returns-clause-compiled : goal.returns-clause-compiled
returns-clause-compiled c = λ read.
    let whole = c.in_ok-whole.ensures.whole read in
    compiled_is c.args.sources.now c.in_ok-whole.whole c.args.module c.in_ok-module.module c.object_of.result whole
    (c.in_ok-module.ensures.meant c.args.sources.now.files.items read.few whole) c.object_of.ensures.object c.object_of.ensures.within

pub returns-in_err-whole-clause-cause : goal.returns-in_err-whole-clause-cause
returns-in_err-whole-clause-cause c = λ read.
    passed_up c.from_residual.result c.in_err-whole.field-0.0 (IsRefusedObject c.args.sources.now c.args.module) c.from_residual.ensures.1 (no_texts (c.in_err-whole.ensures.cause read))

pub returns-in_err-module-clause-cause : goal.returns-in_err-module-clause-cause
returns-in_err-module-clause-cause c = λ read.
    let whole = c.in_ok-whole.ensures.whole read in
    passed_up c.from_residual-in_err-module.result c.in_err-module.field-0.0 (IsRefusedObject c.args.sources.now c.args.module) c.from_residual-in_err-module.ensures.1
    (file_layer c.args.sources.now c.in_ok-whole.whole c.args.module c.in_err-module.field-0.0 whole (c.in_err-module.ensures.cause c.args.sources.now.files.items read.few whole))

pub returns-clause-cause : goal.returns-clause-cause
returns-clause-cause c = λ read.
    let whole = c.in_ok-whole.ensures.whole read in
    object_layer c.args.sources.now c.in_ok-whole.whole c.args.module c.in_ok-module.module c.object_of.result whole
    (c.in_ok-module.ensures.meant c.args.sources.now.files.items read.few whole) c.object_of.ensures.cause
