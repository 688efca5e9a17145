use Rattle.std.specs.Int.{w64}
use Rattle.std.proofs.lemmas.Int.{to_z-of_z}
use Rattle.lp_plain.proofs.Operations.{gives_quotient, zero_divided}
use Rattle.lp_plain.proofs.operation.quotient_of.Goals as goal

pub returns-then-right-eq0 : goal.returns-then-right-eq0
returns-then-right-eq0 c = zero_divided c.args.left c.args.right c.ranges.right c.if-right-eq0.true

pub returns : goal.returns
returns c =
    gives_quotient c.args.left c.args.right _ _ (to_z-of_z w64 c.args.left c.ranges.left) (to_z-of_z w64 c.args.right c.ranges.right) c.checked_div.result c.fitting.result c.fitting.ensures c.if-right-eq0.false c.checked_div.ensures
