use Rattle.std.specs.Int.{w64}
use Rattle.std.proofs.lemmas.Int.{to_z-of_z}
use Rattle.lp_plain.proofs.Operations.{gives_remainder, zero_remainder}
use Rattle.lp_plain.proofs.operation.remainder_of.Goals as goal

pub returns-then-right-eq0 : goal.returns-then-right-eq0
returns-then-right-eq0 c = zero_remainder c.args.left c.args.right c.ranges.right c.if-right-eq0.true

pub returns : goal.returns
returns c =
    gives_remainder c.args.left c.args.right _ _ (to_z-of_z w64 c.args.left c.ranges.left) (to_z-of_z w64 c.args.right c.ranges.right) c.checked_rem.result c.fitting.result c.fitting.ensures c.ranges.left c.if-right-eq0.false
    c.checked_rem.ensures
