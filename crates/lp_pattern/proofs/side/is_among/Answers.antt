use Rattle.std.proofs.Common.{◌∙◌}
use Rattle.lp_pattern.proofs.Sides.{member_is}
use Rattle.lp_pattern.proofs.side.is_among.Goals as goal

pub returns : goal.returns
returns c = c.contains.ensures.value ∙ member_is c.args.k c.args.ks.now
