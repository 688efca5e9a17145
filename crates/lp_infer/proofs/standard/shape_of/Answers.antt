use Rattle.std.proofs.Common.{◌∙◌, ◌<◌, ap, sym, arith}
use Rattle.lp_standard.specs.Constants.{language, reserved}
use Rattle.lp_infer.proofs.Leaves.{none_standard}
use Rattle.lp_infer.proofs.Standards.{scheme_if, entry_at}
use Rattle.lp_infer.proofs.standard.shape_of.Goals as goal

pub returns-then-number-ge-RESERVED : goal.returns-then-number-ge-RESERVED
returns-then-number-ge-RESERVED c = sym (none_standard c.args.number c.if-number-ge-RESERVED.true)

pub returns : goal.returns
returns c =
    let below : c.args.number < 25 = omega (arith, c.if-number-ge-RESERVED.false) in
    c.shape.ensures ∙ ap scheme_if c.in_ok-from_number.ensures ∙ entry_at language reserved c.args.number below
