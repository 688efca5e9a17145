use Rattle.std.proofs.Common.{sym}
use Rattle.lp_bytes.proofs.Lengthened.{more_last, more_then}
use Rattle.lp_object.specs.declared.width.Width.TheVariants.{Four}
use Rattle.lp_object.specs.Numbers.{spelled_text}
use Rattle.lp_object.specs.Plain.{plain_image_constant}
use Rattle.lp_object.proofs.ImagesFound.{image_constant_spelled}
use Rattle.lp_object.proofs.Writes.{written_so, written_last}
use Rattle.lp_object.proofs.image.write_constant.Goals as goal

pub returns : goal.returns
returns c = written_last c.write_fixity.result (λ x. x) _ _ _ _ (sym (image_constant_spelled Four
    (plain_image_constant c.args.bank.now c.args.constant.now))) (more_last c.write_fixity.result _ _ _ _ _
    (more_then _ _ _ _ _ (written_so spelled_text _ _ _ _ c.as_slice.ensures.value c.in_ok-write_text.ensures) c.in_ok-two.ensures)
    (more_last c.write_fixity.result _ _ _ _ _ (c.in_ok-byte.ensures) (more_last c.write_fixity.result _ _ _ _ _ (c.in_ok-write_scheme.ensures)
    (c.write_fixity.ensures))))
