use Rattle.std.proofs.Common.{sym}
use Rattle.std.proofs.lemmas.List.{length-map}
use Rattle.lp_bytes.specs.Numbers.{spelled_four}
use Rattle.lp_bytes.proofs.Lengthened.{more_last}
use Rattle.lp_object.specs.Plain.{plain_image_kind}
use Rattle.lp_object.specs.Files.{spelled_image_kinds}
use Rattle.lp_object.proofs.Writes.{counted_so}
use Rattle.lp_object.proofs.image.write_kinds.Goals as goal

pub returns : goal.returns
unfolding spelled_image_kinds
returns c = more_last c.write_each_kind.result _ _ _ _ _ (counted_so (λ n. spelled_four n) _ _ _ _ (sym (length-map c.args.kinds.now plain_image_kind)) c.in_ok-low_four.ensures) (c.write_each_kind.ensures)
