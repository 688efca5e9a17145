use Rattle.std.proofs.Common.{ap, sym}
use Rattle.lp_build.specs.Uncoded.{of_code}
use Rattle.lp_build.proofs.fault.of_generator.Goals as goal

pub returns-in-Limit-clause-same : goal.returns-in-Limit-clause-same
returns-in-Limit-clause-same c = ap of_code (sym c.in-Limit.is)

pub returns-in-Memory-clause-same : goal.returns-in-Memory-clause-same
returns-in-Memory-clause-same c = ap of_code (sym c.in-Memory.is)
