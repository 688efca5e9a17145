use Rattle.std.proofs.Common.{ap}
use Rattle.std.specs.Str.{bytes_eq}
use Rattle.std.specs.Map.{lookup}
use Rattle.lp_fixity.specs.Table.{entry_of}
use Rattle.lp_fixity.proofs.table.Table.empty.Goals as goal

pub returns : goal.returns
unfolding entry_of
returns c = λ name. ap (lookup (λ k. bytes_eq name k.items)) c.new.ensures.empty
