use Rattle.std.proofs.Common.{ap, ◌∙◌}
use Rattle.lp_lines.specs.Lines.{is_of_search}
use Rattle.lp_lines.proofs.Statuses.{ending_is}
use Rattle.lp_solve.proofs.generated.summary.Goals as goal

pub returns : goal.returns
returns c = ap is_of_search c.status.ensures ∙ ending_is c.in_ok-why.why
