use Rattle.lp_bytes.proofs.Lengthened.{more_last, more_then}
use Rattle.lp_object.specs.Tables.{spelled_group}
use Rattle.lp_object.proofs.tables.write_group.Goals as goal

pub returns : goal.returns
unfolding spelled_group
returns c = more_last c.write_numbers.result _ _ _ _ _ (more_then _ _ _ _ _ c.in_ok-write_key.ensures c.in_ok-low_four.ensures) c.write_numbers.ensures
