use Rattle.lp_bytes.proofs.Lengthened.{more_last}
use Rattle.lp_cert.proofs.types.write_numbered.Goals as goal

pub returns : goal.returns
returns c = more_last c.low_four.result _ _ _ _ _ c.in_ok-byte.ensures c.low_four.ensures
