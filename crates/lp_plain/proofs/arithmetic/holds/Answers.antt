use Rattle.std.proofs.Common.{◌∙◌, ap, sym, w64}
use Rattle.std.proofs.lemmas.Int.{to_z-of_z}
use Rattle.lp_base.specs.declared.compare.Compare.TheVariants as compare
use Rattle.lp_model.specs.Values.{ordered}
use Rattle.lp_plain.specs.Forms.{order_number}
use Rattle.lp_plain.proofs.arithmetic.holds.Goals as goal

pub returns-in-Less : goal.returns-in-Less
returns-in-Less c =
    (λ j. ordered (order_number compare.Less) (to_z-of_z w64 c.args.left c.ranges.left j) (to_z-of_z w64 c.args.right c.ranges.right j)) ∙ ap (λ o. ordered (order_number o) c.args.left c.args.right) (sym c.in-Less.is)

pub returns-in-Greater : goal.returns-in-Greater
returns-in-Greater c =
    (λ j. ordered (order_number compare.Greater) (to_z-of_z w64 c.args.left c.ranges.left j) (to_z-of_z w64 c.args.right c.ranges.right j)) ∙ ap (λ o. ordered (order_number o) c.args.left c.args.right) (sym c.in-Greater.is)

pub returns-in-AtMost : goal.returns-in-AtMost
returns-in-AtMost c =
    (λ j. ordered (order_number compare.AtMost) (to_z-of_z w64 c.args.left c.ranges.left j) (to_z-of_z w64 c.args.right c.ranges.right j)) ∙ ap (λ o. ordered (order_number o) c.args.left c.args.right) (sym c.in-AtMost.is)

pub returns-in-AtLeast : goal.returns-in-AtLeast
returns-in-AtLeast c =
    (λ j. ordered (order_number compare.AtLeast) (to_z-of_z w64 c.args.left c.ranges.left j) (to_z-of_z w64 c.args.right c.ranges.right j)) ∙ ap (λ o. ordered (order_number o) c.args.left c.args.right) (sym c.in-AtLeast.is)
