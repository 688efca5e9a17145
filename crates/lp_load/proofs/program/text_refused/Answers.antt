use Rattle.std.proofs.Common.{[], sym, subst}
use Rattle.lp_lines.proofs.Placing.{line_weaker}
use Rattle.lp_load.specs.Placed.{SaysOfFile}
use Rattle.lp_load.proofs.program.text_refused.Goals as goal

pub blamed-requires : goal.blamed-requires
blamed-requires g = rw g.in-Text.is at g.requires []

pub returns-in-Some-clause-says : goal.returns-in-Some-clause-says
returns-in-Some-clause-says c =
    subst (λ x. SaysOfFile c.args.sources.now.files.items x c.blamed.result) (sym c.in-Text.is)
    (line_weaker _ _ (λ line w. (c.in-Some.file.now, c.in-Some.text.now, c.in-Some.ensures.found, w)) c.blamed.result c.blamed.ensures.says)
