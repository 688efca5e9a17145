use Rattle.std.proofs.Common.{ap}
use Rattle.std.specs.List.{list_any}
use Rattle.std.specs.Str.{bytes_eq}
use Rattle.lp_sig.proofs.hearing.no_names.Goals as goal

pub returns : goal.returns
returns c = λ name. ap (list_any (λ k. bytes_eq name k.items)) c.new.ensures.empty
