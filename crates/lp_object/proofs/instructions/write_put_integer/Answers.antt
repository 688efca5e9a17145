use Rattle.std.proofs.lemmas.Int.{to_z-of_z}
use Rattle.std.proofs.Common.{w64, to_z, of_z, ◌≡◌, arith}
use Rattle.lp_bytes.specs.Numbers.{spelled_integer}
use Rattle.lp_bytes.proofs.Lengthened.{more_last}
use Rattle.lp_object.proofs.Writes.{written_last}
use Rattle.lp_object.proofs.instructions.write_put_integer.Goals as goal

pub returns : goal.returns
returns c = let same : to_z w64 (of_z w64 c.args.integer) ≡ c.args.integer = grind (arith, to_z-of_z) in more_last c.integer.result _ _ _ _ _ c.in_ok-two.ensures (written_last c.integer.result (λ z. spelled_integer z) _ _ _ _ same c.integer.ensures)
