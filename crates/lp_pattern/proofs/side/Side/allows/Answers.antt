use Rattle.std.proofs.Common.{◌∙◌, ap, arith}
use Rattle.lp_model.specs.Patterns.{member}
use Rattle.lp_pattern.specs.Reading.{side_of}
use Rattle.lp_pattern.proofs.Sides.{allows_last}
use Rattle.lp_pattern.proofs.side.Side.allows.Goals as goal

pub returns : goal.returns
returns c =
    allows_last (side_of c.args.self.now) c.args.eigen c.is_among.result (omega (arith, c.if-eigen-self.false)) (omega (arith, c.if-eigen-self-2.false)) (c.is_among.ensures ∙ ap (member c.args.eigen) c.as_slice.ensures.value)
