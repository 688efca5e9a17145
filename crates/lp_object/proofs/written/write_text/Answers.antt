use Rattle.lp_bytes.proofs.Lengthened.{more_last}
use Rattle.lp_object.specs.Numbers.{spelled_text}
use Rattle.lp_object.proofs.written.write_text.Goals as goal

pub returns : goal.returns
unfolding spelled_text
returns c = more_last c.put.result _ _ _ _ _ c.in_ok-low_two.ensures c.put.ensures
