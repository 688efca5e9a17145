use Rattle.lp_bytes.proofs.Lengthened.{more_last, more_then}
use Rattle.lp_object.specs.Numbers.{spelled_text}
use Rattle.lp_object.specs.Files.{spelled_image_kind}
use Rattle.lp_object.proofs.Writes.{written_so}
use Rattle.lp_object.proofs.image.write_kind.Goals as goal

pub returns : goal.returns
unfolding spelled_image_kind
returns c = more_last c.byte.result _ _ _ _ _ (more_then _ _ _ _ _ (written_so spelled_text _ _ _ _ c.as_slice.ensures.value c.in_ok-write_text.ensures) c.in_ok-two.ensures) c.byte.ensures
