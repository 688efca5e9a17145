use Rattle.lp_lemmas.proofs.Results.{passed_up}
use Rattle.lp_build.specs.Refused.{IsRefusedModules, of_whole}
use Rattle.lp_build.specs.inner.Refusing.{IsRefusedAmong}
use Rattle.lp_build.proofs.Causing.{err_as, modules_layer}
use Rattle.lp_build.proofs.Growing.{modules_are}
use Rattle.lp_build.proofs.build.modules.Goals as goal

pub returns-clause-meanings : goal.returns-clause-meanings
returns-clause-meanings c = λ read.
    let whole = c.in_ok-whole.ensures.whole read in
    modules_are c.args.sources.now c.in_ok-whole.whole.texts c.modules_in.result whole.texts (c.modules_in.ensures.meanings c.args.sources.now.files.items whole)

pub returns-in_err-whole-clause-cause : goal.returns-in_err-whole-clause-cause
returns-in_err-whole-clause-cause c = λ read.
    passed_up c.from_residual.result c.in_err-whole.field-0.0 (IsRefusedModules c.args.sources.now) c.from_residual.ensures.1 (of_whole (c.in_err-whole.ensures.cause read))

pub returns-clause-cause : goal.returns-clause-cause
returns-clause-cause c = λ read.
    let whole = c.in_ok-whole.ensures.whole read in
    let sources = c.args.sources.now in
    err_as c.modules_in.result (IsRefusedAmong sources.files.items c.in_ok-whole.whole.texts.signatures c.in_ok-whole.whole.texts.modules) (IsRefusedModules sources)
    (λ e. modules_layer sources c.in_ok-whole.whole e whole) (c.modules_in.ensures.cause sources.files.items whole)
