use Rattle.lp_lines.proofs.Looking.{looked_judged}
use Rattle.lp_load.proofs.Telling.{looked_gathered, looked_ungathered}
use Rattle.lp_files.specs.Uncompiled.{of_files}
use Rattle.lp_files.proofs.Making.{object_made}
use Rattle.lp_files.proofs.Uncompiling.{uncompiled_is}
use Rattle.lp_files.proofs.compile.compiled.Goals as goal

pub returns-in-Ok-clause-looked : goal.returns-in-Ok-clause-looked
returns-in-Ok-clause-looked g c = looked_judged c.written.result (looked_gathered c.in-Ok.ensures.outside) c.written.ensures.judged

pub returns-in-Err-clause-looked : goal.returns-in-Err-clause-looked
returns-in-Err-clause-looked g c = looked_ungathered c.in-Err.fault c.load_refused.result c.load_refused.ensures.tells c.in-Err.ensures.outside

pub returns-in-Ok-clause-object : goal.returns-in-Ok-clause-object
returns-in-Ok-clause-object g c = object_made _ c.args.name.now c.in-Ok.sources c.written.result c.in-Ok.ensures.ordered c.in-Ok.ensures.files c.in-Ok.ensures.read (c.written.ensures.spells c.in-Ok.ensures.read)

pub returns-in-Ok-clause-cause : goal.returns-in-Ok-clause-cause
returns-in-Ok-clause-cause g c = uncompiled_is _ c.args.name.now c.in-Ok.sources c.written.result c.in-Ok.ensures.ordered c.in-Ok.ensures.files c.in-Ok.ensures.read (c.written.ensures.cause c.in-Ok.ensures.read)

pub returns-in-Err-clause-cause : goal.returns-in-Err-clause-cause
returns-in-Err-clause-cause g c =
    of_files c.in-Err.sources c.in-Err.fault c.in-Err.ensures.files_so_far c.in-Err.ensures.read_so_far c.in-Err.ensures.ordered_so_far c.in-Err.ensures.fault (c.load_refused.ensures.file _ c.in-Err.ensures.fault)
