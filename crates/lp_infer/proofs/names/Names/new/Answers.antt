use Rattle.std.proofs.Common.{ap}
use Rattle.std.specs.Map.{lookup}
use Rattle.std.specs.Str.{bytes_eq}
use Rattle.lp_infer.specs.Scanning.{level_in, level_at}
use Rattle.lp_infer.proofs.names.Names.new.Goals as goal

pub returns-clause-level : goal.returns-clause-level
unfolding level_in
returns-clause-level c = λ name. ap (λ es. level_at (lookup (λ k. bytes_eq name k.items) es)) c.new.ensures.empty
