use Rattle.lp_cert.proofs.Wider.{provable}
use Rattle.lp_cert.proofs.laws.certified_instances_are_provable.Goals as goal

pub returns : goal.returns
returns c = provable
