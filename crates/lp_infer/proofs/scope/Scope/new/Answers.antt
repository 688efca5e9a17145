use Rattle.std.proofs.Common.{ap, refl}
use Rattle.std.specs.Map.{lookup}
use Rattle.std.specs.Str.{bytes_eq}
use Rattle.lp_infer.specs.Levels.{level_in, level_at}
use Rattle.lp_infer.proofs.scope.Scope.new.Goals as goal

pub returns : goal.returns
unfolding level_in
returns c = record { depth = refl; levels = λ name. ap (λ es. level_at (lookup (λ k. bytes_eq name k.items) es)) c.new.ensures.empty }
