use Rattle.lp_bytes.proofs.Lengthened.{more_last}
use Rattle.lp_object.proofs.instructions.write_put_text.Goals as goal

pub returns : goal.returns
returns c = more_last c.write_text.result _ _ _ _ _ (c.in_ok-two.ensures) (c.write_text.ensures)
