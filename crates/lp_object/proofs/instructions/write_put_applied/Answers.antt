use Rattle.lp_bytes.proofs.Lengthened.{more_last}
use Rattle.lp_object.proofs.instructions.write_put_applied.Goals as goal

pub returns : goal.returns
returns c = more_last c.write_few.result _ _ _ _ _ (c.in_ok-two.ensures) (more_last c.write_few.result _ _ _ _ _ (c.in_ok-two-2.ensures) (c.write_few.ensures))
