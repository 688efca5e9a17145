-- What the code makes of a head and its operands.
use Rattle.std.specs.Prelude.{List, [], ◌∷◌, Option, Some, None}
use Rattle.lp_standard.specs.declared.constant.Constant.{Constant}
use Rattle.lp_standard.specs.declared.constant.Constant.TheVariants as fixed
use Rattle.lp_standard.specs.Constants.{numbered}
use Rattle.lp_store.specs.declared.cell.Cell.{Cell}
use Rattle.lp_store.specs.declared.cell.Cell.TheVariants as cell
use Rattle.lp_store.specs.declared.cell.CellId.{CellId}
use Rattle.lp_arith.specs.declared.value.Value.TheVariants as value
use Rattle.lp_arith.specs.declared.expression.Expression.{Expression}
use Rattle.lp_arith.specs.declared.expression.Expression.TheVariants.{Leaf, One, Two, Other}

abbrev pub one_by : Constant → CellId → Expression
one_by fixed.Negate a = One fixed.Negate a
one_by fixed.Size a = One fixed.Size a
one_by _ a = Other

abbrev pub two_by : Constant → (left right : CellId) → Expression
two_by fixed.Add a b = Two fixed.Add a b
two_by fixed.Subtract a b = Two fixed.Subtract a b
two_by fixed.Multiply a b = Two fixed.Multiply a b
two_by fixed.Divide a b = Two fixed.Divide a b
two_by fixed.Remainder a b = Two fixed.Remainder a b
two_by fixed.Concatenate a b = Two fixed.Concatenate a b
two_by _ a b = Other

abbrev pub operation_by : Constant → List CellId → Expression
operation_by k [] = Other
operation_by k (a ∷ []) = one_by k a
operation_by k (a ∷ b ∷ []) = two_by k a b
operation_by k (a ∷ b ∷ c ∷ more) = Other

abbrev pub applied_by : Option Constant → List CellId → Expression
applied_by None ids = Other
applied_by (Some k) ids = operation_by k ids

abbrev pub expression_by : CellId → Cell → List CellId → Expression
expression_by h (cell.Int z) [] = Leaf (value.Int z)
expression_by h (cell.Text l) [] = Leaf (value.Text h)
expression_by h (cell.Const n l) ids = applied_by (numbered n) ids
expression_by h _ ids = Other
