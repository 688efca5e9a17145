use Rattle.lp_bytes.proofs.Lengthened.{more_last}
use Rattle.lp_object.proofs.instructions.write_put_typed.Goals as goal

pub returns : goal.returns
returns c = more_last c.write_typed.result _ _ _ _ _ (c.in_ok-two.ensures) (c.write_typed.ensures)
