use Rattle.std.proofs.Common.{◌∷◌, []}
use Rattle.lp_bytes.proofs.Lengthened.{more_last}
use Rattle.lp_object.proofs.Writes.{counted_so}
use Rattle.lp_object.proofs.instructions.write_instruction.Goals as goal

pub returns : goal.returns
returns c = more_last c.write_operands.result _ _ _ _ _ (counted_so (λ n. n ∷ []) _ _ _ _ c.number_of.ensures c.in_ok-byte.ensures) c.write_operands.ensures
