use Rattle.lp_bytes.proofs.Lengthened.{more_last}
use Rattle.lp_object.specs.Numbers.{spelled_number}
use Rattle.lp_object.proofs.Writes.{written_last}
use Rattle.lp_object.proofs.records.write_some_head.Goals as goal

pub returns-in_ok-byte-in-Const : goal.returns-in_ok-byte-in-Const
returns-in_ok-byte-in-Const c = rw c.in-Const.is (more_last c.write_number.result _ _ _ _ _ c.in_ok-byte-in-Const.ensures (written_last c.write_number.result (λ n. spelled_number c.args.width n) _ _ _ _ c.from.ensures c.write_number.ensures))

pub returns-in_ok-byte-in-Register : goal.returns-in_ok-byte-in-Register
returns-in_ok-byte-in-Register c = rw c.in-Register.is (more_last c.two.result _ _ _ _ _ c.in_ok-byte-in-Register.ensures c.two.ensures)
