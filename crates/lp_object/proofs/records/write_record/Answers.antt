use Rattle.std.proofs.Common.{map, sym}
use Rattle.lp_bytes.proofs.Lengthened.{more_last, more_then}
use Rattle.lp_object.specs.Plain.{plain_instr, plain_record}
use Rattle.lp_object.specs.Spelling.{spelled_code, spelled_key}
use Rattle.lp_object.proofs.RecordsFound.{record_spelled}
use Rattle.lp_object.proofs.Writes.{written_so, written_last}
use Rattle.lp_object.proofs.records.write_record.Goals as goal

pub returns : goal.returns
returns c = written_last c.write_code.result (λ x. x) _ _ _ _ (sym (record_spelled c.args.width (plain_record c.args.of.now)))
    (more_last c.write_code.result _ _ _ _ _ (more_then _ _ _ _ _ c.in_ok-write_form.ensures c.in_ok-write_head.ensures)
    (more_last c.write_code.result _ _ _ _ _ (c.in_ok-two.ensures) (more_last c.write_code.result _ _ _ _ _ (c.in_ok-two-2.ensures)
    (more_last c.write_code.result _ _ _ _ _ (c.in_ok-two-3.ensures) (more_last c.write_code.result _ _ _ _ _ (c.in_ok-two-4.ensures)
    (more_last c.write_code.result _ _ _ _ _ (written_so (spelled_key c.args.width) _ _ _ _ c.as_key_ref.ensures.key c.in_ok-write_key.ensures)
    (written_last c.write_code.result (λ is. spelled_code c.args.width (map plain_instr is)) _ _ _ _ c.as_slice.ensures.value
    c.write_code.ensures)))))))
