use Rattle.std.proofs.Common.{map, sym}
use Rattle.lp_bytes.proofs.Lengthened.{more_last}
use Rattle.lp_object.specs.declared.width.Width.TheVariants.{Two}
use Rattle.lp_object.specs.Numbers.{spelled_text}
use Rattle.lp_object.specs.Plain.{plain_record, plain_object_kind, plain_object_constant, plain_object}
use Rattle.lp_object.specs.Spelling.{spelled_records}
use Rattle.lp_object.specs.Files.{spelled_object_kinds, spelled_object_constants, spelled_uses}
use Rattle.lp_object.proofs.ObjectsFound.{object_spelled}
use Rattle.lp_object.proofs.Writes.{written_so, written_last}
use Rattle.lp_object.proofs.object.write_all.Goals as goal

pub returns : goal.returns
returns c = written_last c.write_records.result (λ x. x) _ _ _ _ (sym (object_spelled (plain_object c.args.object.now)))
    (more_last c.write_records.result _ _ _ _ _ (c.in_ok-put.ensures) (more_last c.write_records.result _ _ _ _ _ (c.in_ok-two.ensures)
    (more_last c.write_records.result _ _ _ _ _ (written_so spelled_text _ _ _ _ c.as_slice.ensures.value c.in_ok-write_text.ensures)
    (more_last c.write_records.result _ _ _ _ _ (written_so (λ ks. spelled_object_kinds (map plain_object_kind ks)) _ _ _ _ c.as_slice-2.ensures.value
    c.in_ok-write_kinds.ensures) (more_last c.write_records.result _ _ _ _ _ (written_so
    (λ ks. spelled_object_constants (map (plain_object_constant c.args.object.now.bank) ks)) _ _ _ _ c.as_slice-3.ensures.value
    c.in_ok-write_constants.ensures) (more_last c.write_records.result _ _ _ _ _ (written_so (λ us. spelled_uses (map (λ u. u.items) us)) _ _ _ _
    c.as_slice-4.ensures.value c.in_ok-write_uses.ensures) (written_last c.write_records.result (λ rs. spelled_records Two (map plain_record rs)) _ _
    _ _ c.as_slice-5.ensures.value c.write_records.ensures)))))))
