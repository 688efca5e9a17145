use Rattle.std.proofs.Common.{map, sym}
use Rattle.lp_bytes.proofs.Lengthened.{more_last, more_then}
use Rattle.lp_object.specs.declared.width.Width.TheVariants.{Four}
use Rattle.lp_object.specs.Numbers.{spelled_text}
use Rattle.lp_object.specs.Plain.{plain_record, plain_image_kind, plain_image_constant, plain_image}
use Rattle.lp_object.specs.Spelling.{spelled_records}
use Rattle.lp_object.specs.Files.{spelled_image_kinds, spelled_image_constants, spelled_image}
use Rattle.lp_object.proofs.ImagesFound.{image_spelled}
use Rattle.lp_object.proofs.Writes.{written_so}
use Rattle.lp_object.proofs.image.write_all.Goals as goal

pub returns : goal.returns
unfolding spelled_image
returns c = more_last c.write_tables.result _ _ _ _ _ (c.in_ok-put.ensures) (more_last c.write_tables.result _ _ _ _ _ (c.in_ok-two.ensures)
    (more_last c.write_tables.result _ _ _ _ _ (written_so (λ x. x) _ _ _ _ (sym (image_spelled Four (plain_image c.args.image.now)))
    (more_then _ _ _ _ _ (written_so spelled_text _ _ _ _ c.as_slice.ensures.value c.in_ok-write_text.ensures)
    (more_then _ _ _ _ _ (written_so (λ ks. spelled_image_kinds Four (map plain_image_kind ks)) _ _ _ _ c.as_slice-2.ensures.value
    c.in_ok-write_kinds.ensures) (more_then _ _ _ _ _ (written_so (λ ks. spelled_image_constants Four
    (map (plain_image_constant c.args.image.now.bank) ks)) _ _ _ _ c.as_slice-3.ensures.value c.in_ok-write_constants.ensures)
    (written_so (λ rs. spelled_records Four (map plain_record rs)) _ _ _ _ c.as_slice-4.ensures.value c.in_ok-write_records.ensures)))))
    (c.write_tables.ensures)))
