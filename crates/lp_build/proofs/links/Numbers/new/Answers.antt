use Rattle.std.proofs.Common.{ap}
use Rattle.std.specs.Str.{bytes_eq}
use Rattle.std.specs.Map.{lookup}
use Rattle.lp_build.specs.inner.Linked.{number_of}
use Rattle.lp_build.proofs.links.Numbers.new.Goals as goal

pub returns : goal.returns
unfolding number_of
returns c = λ name. ap (lookup (λ k. bytes_eq name k.items)) c.new.ensures.empty
