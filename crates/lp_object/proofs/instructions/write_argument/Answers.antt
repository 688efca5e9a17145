use Rattle.lp_bytes.proofs.Lengthened.{more_last}
use Rattle.lp_object.proofs.instructions.write_argument.Goals as goal

pub returns : goal.returns
returns c = more_last c.two.result _ _ _ _ _ (c.in_ok-byte.ensures) (c.two.ensures)
