use Rattle.std.proofs.Common.{length, ap}
use Rattle.std.specs.Str.{bytes_eq}
use Rattle.std.specs.Map.{lookup}
use Rattle.lp_sig.proofs.hearing.no_words.Goals as goal

pub returns : goal.returns
returns c = ((λ name. ap (lookup (λ k. bytes_eq name k.items)) c.new.ensures.empty), ap length c.new.ensures.empty)
