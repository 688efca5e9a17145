use Rattle.std.proofs.Common.{sym, ◌++◌, arith}
use Rattle.std.proofs.lemmas.Option.{slice_get-get_or, slice_get_past}
use Rattle.lp_standard.specs.Constants.{language, reserved}
use Rattle.lp_standard.proofs.constant.Constant.from_number.Goals as goal

pub returns-then-number-lt26 : goal.returns-then-number-lt26
returns-then-number-lt26 c = sym (slice_get-get_or (language ++ reserved) c.args.number _ c.if-number-lt26.true)

pub returns : goal.returns
returns c = sym (slice_get_past (language ++ reserved) c.args.number (omega (arith, c.if-number-lt26.false)))
