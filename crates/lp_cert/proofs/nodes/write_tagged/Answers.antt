use Rattle.lp_bytes.proofs.Lengthened.{more_last}
use Rattle.lp_cert.proofs.nodes.write_tagged.Goals as goal

pub returns : goal.returns
returns c = more_last c.write_term.result _ _ _ _ _ c.in_ok-byte.ensures c.write_term.ensures
