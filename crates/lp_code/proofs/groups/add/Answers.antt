use Rattle.std.proofs.Common.{rules}
use Rattle.lp_code.proofs.groups.add.Goals as goal

pub returns : goal.returns
returns g c = (c.push.new.self, grind rules, grind rules)
