use Rattle.lp_bytes.proofs.Lengthened.{more_last}
use Rattle.lp_object.specs.Numbers.{spelled_numbered}
use Rattle.lp_object.proofs.written.write_numbered.Goals as goal

pub returns : goal.returns
unfolding spelled_numbered
returns c = more_last c.write_numbers.result _ _ _ _ _ (c.in_ok-low_two.ensures) (c.write_numbers.ensures)
