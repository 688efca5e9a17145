use Rattle.lp_pattern.proofs.Falls.{opened_falls}
use Rattle.lp_pattern.proofs.Stacks.{pairs_kept}
use Rattle.lp_pattern.proofs.Tops.{opened_step}
use Rattle.lp_pattern.proofs.compare.open_sides.Goals as goal

pub returns-clause-compared : goal.returns-clause-compared
returns-clause-compared c = λ r i n.
    opened_step c.args.bank.now c.opened.new.bank r c.args.units.now n c.args.level c.args.one.now.whole c.args.other.now.whole c.args.left.now.items c.push.new.self.items c.in_ok-pair.pair c.requires.abstraction
    c.in_ok-push.ensures.items (c.in_ok-pair.ensures.opened r) (pairs_kept c.args.bank.now c.opened.new.bank r c.args.left.now.items c.in_ok-pair.ensures.kept c.requires.left)

pub returns-clause-falls : goal.returns-clause-falls
returns-clause-falls c = opened_falls c.args.units.now c.args.level c.args.left.now.items c.push.new.self.items c.in_ok-pair.pair c.in_ok-push.ensures.items c.in_ok-pair.ensures.deeper.0 c.in_ok-pair.ensures.deeper.1
