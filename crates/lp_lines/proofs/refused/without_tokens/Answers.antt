use Rattle.std.proofs.Common.{refl}
use Rattle.lp_lines.proofs.refused.without_tokens.Goals as goal

pub returns-in-Ok-clause-says : goal.returns-in-Ok-clause-says
returns-in-Ok-clause-says c = (refl, c.in-Ok.ensures.says)
