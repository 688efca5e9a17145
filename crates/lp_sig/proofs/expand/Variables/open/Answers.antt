use Rattle.std.proofs.Common.{ap, refl}
use Rattle.std.specs.Str.{bytes_eq}
use Rattle.std.specs.Map.{lookup}
use Rattle.lp_sig.specs.Knowing.{number_of}
use Rattle.lp_sig.proofs.expand.Variables.open.Goals as goal

pub returns-clause-empty : goal.returns-clause-empty
unfolding number_of
returns-clause-empty c = λ name. ap (lookup (λ k. bytes_eq name k.items)) c.new.ensures.empty

pub returns-clause-names : goal.returns-clause-names
unfolding number_of
returns-clause-names c = record { opened = refl; next = refl; numbers = λ name e. ap (lookup (λ k. bytes_eq name k.items)) c.new.ensures.empty }
