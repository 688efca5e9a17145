use Rattle.lp_bytes.proofs.Lengthened.{more_last}
use Rattle.lp_object.specs.Numbers.{spelled_text}
use Rattle.lp_object.specs.Files.{spelled_object_kind}
use Rattle.lp_object.proofs.Writes.{written_so}
use Rattle.lp_object.proofs.object.write_kind.Goals as goal

pub returns : goal.returns
unfolding spelled_object_kind
returns c = more_last c.byte.result _ _ _ _ _ (c.in_ok-write_class.ensures) (more_last c.byte.result _ _ _ _ _ (written_so spelled_text _ _ _ _ c.as_slice.ensures.value c.in_ok-write_text.ensures) (c.byte.ensures))
