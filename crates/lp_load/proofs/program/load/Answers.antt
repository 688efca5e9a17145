use Rattle.lp_lines.proofs.Looking.{looked_judged, text_judged}
use Rattle.lp_lines.proofs.Refusing.{texts_are_source}
use Rattle.lp_load.proofs.Programs.{loaded_is}
use Rattle.lp_load.proofs.Telling.{looked_gathered, looked_ungathered, tells_source}
use Rattle.lp_load.specs.Unbuilt.{of_files}
use Rattle.lp_load.proofs.Unbuilding.{unbuilt_is}
use Rattle.lp_load.proofs.program.load.Goals as goal

pub returns-in-Ok-clause-looked : goal.returns-in-Ok-clause-looked
returns-in-Ok-clause-looked g c = looked_judged c.build.result (looked_gathered c.in-Ok.ensures.outside) (text_judged c.build.result c.build.ensures.refused)

pub returns-in-Ok-clause-refused : goal.returns-in-Ok-clause-refused
returns-in-Ok-clause-refused g c = texts_are_source c.build.result c.build.ensures.refused

pub returns-in-Ok-clause-placed : goal.returns-in-Ok-clause-placed
returns-in-Ok-clause-placed g c = λ known. c.build.ensures.placed _ (c.in-Ok.ensures.files known)

pub returns-in-Err-clause-looked : goal.returns-in-Err-clause-looked
returns-in-Err-clause-looked g c = looked_ungathered c.in-Err.fault c.load_refused.result c.load_refused.ensures.tells c.in-Err.ensures.outside

pub returns-in-Err-clause-refused : goal.returns-in-Err-clause-refused
returns-in-Err-clause-refused g c = tells_source c.in-Err.fault c.load_refused.result c.load_refused.ensures.tells

pub returns-in-Err-clause-placed : goal.returns-in-Err-clause-placed
returns-in-Err-clause-placed g c = λ known. c.load_refused.ensures.placed _ (c.in-Err.ensures.fault known)

pub returns-in-Ok-clause-program : goal.returns-in-Ok-clause-program
returns-in-Ok-clause-program g c = λ known. loaded_is _ c.args.name.now c.in-Ok.sources c.build.result c.in-Ok.ensures.ordered (c.in-Ok.ensures.files known) c.in-Ok.ensures.read (c.build.ensures.program c.in-Ok.ensures.read)

pub returns-in-Err-clause-cause : goal.returns-in-Err-clause-cause
returns-in-Err-clause-cause g c = λ known. of_files c.in-Err.sources c.in-Err.fault (c.in-Err.ensures.files_so_far known) c.in-Err.ensures.read_so_far c.in-Err.ensures.ordered_so_far (c.in-Err.ensures.fault known) (c.load_refused.ensures.file _ (c.in-Err.ensures.fault known))

pub returns-in-Ok-clause-cause : goal.returns-in-Ok-clause-cause
returns-in-Ok-clause-cause g c = λ known. unbuilt_is _ c.args.name.now c.in-Ok.sources c.build.result c.in-Ok.ensures.ordered (c.in-Ok.ensures.files known) c.in-Ok.ensures.read (c.build.ensures.cause c.in-Ok.ensures.read)
