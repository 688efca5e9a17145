use Rattle.std.proofs.Common.{refl}
use Rattle.lp_lines.proofs.Placing.{blamed_of_text}
use Rattle.lp_lines.proofs.refused.blamed.Goals as goal

pub returns-in-Ok-clause-placed : goal.returns-in-Ok-clause-placed
returns-in-Ok-clause-placed c = λ e. blamed_of_text c.args.blame.now c.requires c.in-Ok.ensures

pub returns-in-Ok-clause-says : goal.returns-in-Ok-clause-says
returns-in-Ok-clause-says c = (refl, c.in-Ok.ensures)
