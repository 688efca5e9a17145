use Rattle.lp_bytes.proofs.Lengthened.{more_last}
use Rattle.lp_object.specs.Numbers.{spelled_many}
use Rattle.lp_object.proofs.written.write_many.Goals as goal

pub returns : goal.returns
unfolding spelled_many
returns c = more_last c.write_registers.result _ _ _ _ _ (c.in_ok-low_two.ensures) (c.write_registers.ensures)
