use Rattle.lp_bytes.proofs.Lengthened.{more_last}
use Rattle.lp_object.proofs.schemes.write_variable.Goals as goal

pub returns : goal.returns
returns c = more_last c.write_low_one.result _ _ _ _ _ (c.in_ok-byte.ensures) (c.write_low_one.ensures)
