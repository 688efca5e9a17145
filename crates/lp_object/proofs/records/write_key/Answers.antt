use Rattle.std.proofs.lemmas.Int.{to_z-of_z}
use Rattle.std.proofs.Common.{w64, to_z, of_z, ◌≡◌, arith}
use Rattle.lp_bytes.specs.Numbers.{spelled_integer}
use Rattle.lp_bytes.proofs.Lengthened.{more_last}
use Rattle.lp_object.specs.Numbers.{spelled_number}
use Rattle.lp_object.proofs.Writes.{written_last}
use Rattle.lp_object.proofs.records.write_key.Goals as goal

pub returns-in_ok-byte-in-Const : goal.returns-in_ok-byte-in-Const
returns-in_ok-byte-in-Const c = rw c.in-Const.is (more_last c.write_number.result _ _ _ _ _ c.in_ok-byte-in-Const.ensures (written_last c.write_number.result (λ n. spelled_number c.args.width n) _ _ _ _ c.from.ensures c.write_number.ensures))

pub returns-in_ok-byte-in-Int : goal.returns-in_ok-byte-in-Int
returns-in_ok-byte-in-Int c = let same : to_z w64 (of_z w64 c.in-Int.integer) ≡ c.in-Int.integer = grind (arith, to_z-of_z) in rw c.in-Int.is (more_last c.integer.result _ _ _ _ _ c.in_ok-byte-in-Int.ensures (written_last c.integer.result (λ z. spelled_integer z) _ _ _ _ same c.integer.ensures))

pub returns-in_ok-byte-in-Text : goal.returns-in_ok-byte-in-Text
returns-in_ok-byte-in-Text c = rw c.in-Text.is (more_last c.write_text.result _ _ _ _ _ c.in_ok-byte-in-Text.ensures c.write_text.ensures)
