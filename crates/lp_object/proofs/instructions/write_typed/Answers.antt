use Rattle.lp_bytes.proofs.Lengthened.{more_last}
use Rattle.lp_object.specs.Numbers.{spelled_number}
use Rattle.lp_object.proofs.Writes.{counted_so}
use Rattle.lp_object.proofs.instructions.write_typed.Goals as goal

pub returns : goal.returns
returns c = more_last c.write_few.result _ _ _ _ _ (counted_so (λ n. spelled_number c.args.width n) _ _ _ _ c.from.ensures c.in_ok-write_number.ensures) (c.write_few.ensures)
