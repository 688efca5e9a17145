use Rattle.std.proofs.Common.{ap}
use Rattle.std.specs.Str.{bytes_eq}
use Rattle.std.specs.Map.{lookup}
use Rattle.lp_module.specs.Files.{number_of}
use Rattle.lp_module.proofs.files.Files.new.Goals as goal

pub returns : goal.returns
unfolding number_of
returns c = λ name. ap (lookup (λ k. bytes_eq name k.items)) c.new.ensures.empty
