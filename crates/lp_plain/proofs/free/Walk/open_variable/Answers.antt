use Rattle.std.proofs.Common.{refl}
use Rattle.lp_plain.proofs.Sightings.{variable_found}
use Rattle.lp_plain.proofs.free.Walk.open_variable.Goals as goal

pub returns : goal.returns
returns c = λ b n e. variable_found b c.args.self.now _ c.args.number n e c.in_ok-insert.ensures.updates.0 refl refl refl refl
