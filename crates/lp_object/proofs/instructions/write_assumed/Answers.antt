use Rattle.lp_bytes.proofs.Lengthened.{more_last, more_then}
use Rattle.lp_object.proofs.instructions.write_assumed.Goals as goal

pub returns : goal.returns
returns c = more_last c.write_many-2.result _ _ _ _ _ (more_then _ _ _ _ _ c.in_ok-write_numbered.ensures c.in_ok-write_many.ensures) c.write_many-2.ensures
