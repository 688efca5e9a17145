use Rattle.lp_bytes.proofs.Lengthened.{more_last}
use Rattle.lp_object.proofs.instructions.write_called.Goals as goal

pub returns : goal.returns
returns c = more_last c.write_few.result _ _ _ _ _ (c.in_ok-write_typed.ensures) (c.write_few.ensures)
