use Rattle.std.proofs.Common.{ap}
use Rattle.std.specs.Str.{bytes_eq}
use Rattle.std.specs.Map.{lookup}
use Rattle.lp_link.specs.inner.Named.{count_in, or_none}
use Rattle.lp_link.proofs.image.Making.new.Goals as goal

pub returns-clause-counted : goal.returns-clause-counted
unfolding count_in
returns-clause-counted c = λ name. (
  ap (λ es. or_none (lookup (λ k. bytes_eq name k.items) es)) c.new-4.ensures.empty,
  ap (λ es. or_none (lookup (λ k. bytes_eq name k.items) es)) c.new-5.ensures.empty,
)
