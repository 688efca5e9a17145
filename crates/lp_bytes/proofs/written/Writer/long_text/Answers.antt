use Rattle.lp_bytes.specs.Numbers.{spelled_long_text}
use Rattle.lp_bytes.proofs.Lengthened.{more_last}
use Rattle.lp_bytes.proofs.written.Writer.long_text.Goals as goal

pub returns : goal.returns
unfolding spelled_long_text
returns c = more_last c.put.result _ _ _ _ _ c.in_ok-low_four.ensures c.put.ensures
