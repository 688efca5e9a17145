use Rattle.lp_lines.proofs.Looking.{looked_judged, looked_memory}
use Rattle.std.proofs.Common.{◌∙◌}
use Rattle.lp_judge.proofs.Checkings.{checks_of}
use Rattle.lp_judge.proofs.checking.read_and_judged.Goals as goal

pub returns-in-Err-clause-looked : goal.returns-in-Err-clause-looked
returns-in-Err-clause-looked g c = looked_memory

pub returns-in-Ok-bytes_of-clause-looked : goal.returns-in-Ok-bytes_of-clause-looked
returns-in-Ok-bytes_of-clause-looked g c = looked_judged c.judged.result c.in-Ok-bytes_of.ensures.looked c.judged.ensures.judged

pub returns-in-Ok-bytes_of-clause-right : goal.returns-in-Ok-bytes_of-clause-right
returns-in-Ok-bytes_of-clause-right g c text = λ asked.
    checks_of _ _ text _ _ _ c.judged.result (c.as_str.ensures.value ∙ c.in-Ok.ensures) c.as_slice.ensures.value c.in-Ok-bytes_of.ensures.there (c.judged.ensures.right (g.F.Folder.held c.args.folder.now) c.args.name.now text asked)
