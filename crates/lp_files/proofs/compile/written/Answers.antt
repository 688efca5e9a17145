use Rattle.std.proofs.Common.{length}
use Rattle.lp_lemmas.proofs.Results.{passed_up}
use Rattle.lp_object.specs.Files.{spelled_object}
use Rattle.lp_object.specs.Plain.{plain_object}
use Rattle.lp_files.specs.Uncompiled.{IsUnspelled}
use Rattle.lp_files.proofs.Uncompiling.{too_many}
use Rattle.lp_files.proofs.compile.written.Goals as goal

pub returns-in-Ok-clause-spells : goal.returns-in-Ok-clause-spells
returns-in-Ok-clause-spells c = λ read. (c.in_ok-object.object, c.in_ok-object.ensures.compiled read, c.in-Ok.ensures.spelled.0)

pub returns-in_err-object-clause-cause : goal.returns-in_err-object-clause-cause
returns-in_err-object-clause-cause c = λ read.
    passed_up c.from_residual.result c.in_err-object.field-0.0 (IsUnspelled c.args.sources.now c.args.name.now) c.from_residual.ensures.1 (c.in_err-object.ensures.cause read)

pub returns-clause-cause : goal.returns-clause-cause
returns-clause-cause c = λ read. too_many c.args.sources.now c.args.name.now c.in_ok-object.object c.unwritten.result (c.in_ok-object.ensures.compiled read)
    (c.unwritten.ensures.says (length (spelled_object (plain_object c.in_ok-object.object))) c.in-Err.ensures.many)
