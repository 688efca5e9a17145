use Rattle.lp_bytes.proofs.Lengthened.{more_last}
use Rattle.lp_object.specs.Numbers.{spelled_few}
use Rattle.lp_object.proofs.written.write_few.Goals as goal

pub returns : goal.returns
unfolding spelled_few
returns c = more_last c.write_registers.result _ _ _ _ _ (c.in_ok-write_low_one.ensures) (c.write_registers.ensures)
