use Rattle.std.proofs.Common.{sym}
use Rattle.lp_bytes.proofs.Lengthened.{more_last}
use Rattle.lp_object.specs.Numbers.{spelled_text}
use Rattle.lp_object.specs.Plain.{plain_object_constant}
use Rattle.lp_object.proofs.ObjectsFound.{constant_spelled}
use Rattle.lp_object.proofs.Writes.{written_so, written_last}
use Rattle.lp_object.proofs.object.write_constant.Goals as goal

pub returns : goal.returns
returns c = written_last c.write_fixity.result (λ x. x) _ _ _ _ (sym (constant_spelled (plain_object_constant c.args.bank.now c.args.constant.now)))
    (more_last c.write_fixity.result _ _ _ _ _ (c.in_ok-write_class.ensures) (more_last c.write_fixity.result _ _ _ _ _
    (written_so spelled_text _ _ _ _ c.as_slice.ensures.value c.in_ok-write_text.ensures)
    (more_last c.write_fixity.result _ _ _ _ _ (c.in_ok-byte.ensures) (more_last c.write_fixity.result _ _ _ _ _ (c.in_ok-write_scheme.ensures)
    (c.write_fixity.ensures)))))
