use Rattle.std.specs.Int.{w64}
use Rattle.std.proofs.lemmas.Int.{to_z-of_z}
use Rattle.lp_plain.proofs.Operations.{gives_negation, other_unary}
use Rattle.lp_plain.proofs.operation.on_integer.Goals as goal

pub returns-in-Negate : goal.returns-in-Negate
returns-in-Negate c = gives_negation c.args.operation c.args.operand _ (to_z-of_z w64 c.args.operand c.ranges.operand) c.checked_neg.result c.fitting.result c.fitting.ensures c.in-Negate.is c.checked_neg.ensures

pub returns-in_default : goal.returns-in_default
returns-in_default c = other_unary c.args.operation c.args.operand c.in_default.not-Negate
