use Rattle.std.specs.Int.{w64}
use Rattle.std.proofs.lemmas.Int.{to_z-of_z}
use Rattle.lp_standard.specs.declared.constant.Constant.TheVariants.{Divide, Remainder}
use Rattle.lp_plain.proofs.Operations.{gives_sum, gives_difference, gives_product, gives_by, other_binary}
use Rattle.lp_plain.proofs.operation.on_integers.Goals as goal

pub returns-in-Add : goal.returns-in-Add
returns-in-Add c =
    gives_sum c.args.left c.args.right _ _ (to_z-of_z w64 c.args.left c.ranges.left) (to_z-of_z w64 c.args.right c.ranges.right) c.checked_add.result c.fitting.result c.fitting.ensures c.args.operation c.in-Add.is c.checked_add.ensures

pub returns-in-Subtract : goal.returns-in-Subtract
returns-in-Subtract c =
    gives_difference c.args.left c.args.right _ _ (to_z-of_z w64 c.args.left c.ranges.left) (to_z-of_z w64 c.args.right c.ranges.right) c.checked_sub.result c.fitting-in-Subtract.result c.fitting-in-Subtract.ensures c.args.operation c.in-Subtract.is
    c.checked_sub.ensures

pub returns-in-Multiply : goal.returns-in-Multiply
returns-in-Multiply c =
    gives_product c.args.left c.args.right _ _ (to_z-of_z w64 c.args.left c.ranges.left) (to_z-of_z w64 c.args.right c.ranges.right) c.checked_mul.result c.fitting-in-Multiply.result c.fitting-in-Multiply.ensures c.args.operation c.in-Multiply.is
    c.checked_mul.ensures

pub returns-in-Divide : goal.returns-in-Divide
returns-in-Divide c = gives_by c.args.operation Divide c.quotient_of.result c.args.left c.args.right _ _ (to_z-of_z w64 c.args.left c.ranges.left) (to_z-of_z w64 c.args.right c.ranges.right) c.in-Divide.is c.quotient_of.ensures

pub returns-in-Remainder : goal.returns-in-Remainder
returns-in-Remainder c = gives_by c.args.operation Remainder c.remainder_of.result c.args.left c.args.right _ _ (to_z-of_z w64 c.args.left c.ranges.left) (to_z-of_z w64 c.args.right c.ranges.right) c.in-Remainder.is c.remainder_of.ensures

pub returns-in_default : goal.returns-in_default
returns-in_default c = other_binary c.args.operation c.args.left c.args.right c.in_default.not-Add c.in_default.not-Subtract c.in_default.not-Multiply c.in_default.not-Divide c.in_default.not-Remainder
