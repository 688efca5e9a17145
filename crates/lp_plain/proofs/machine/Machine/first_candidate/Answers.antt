use Rattle.lp_plain.proofs.Tries.{first_apart, first_tries}
use Rattle.lp_plain.proofs.machine.Machine.first_candidate.Goals as goal

pub returns : goal.returns
returns c = record { tries = first_tries c.args.self.now c.args.call.now _ c.first_candidate.ensures; apart = first_apart c.args.self.now c.args.call.now _ c.first_candidate.ensures }
