use Rattle.std.proofs.Common.{◌+◌, add-one}
use Rattle.lp_pattern.proofs.Stacks.{opened_made}
use Rattle.lp_pattern.proofs.compare.opened.Goals as goal

pub returns-clause-opened : goal.returns-clause-opened
returns-clause-opened c = λ r.
    opened_made c.args.bank.now c.put_eigen.new.bank c.put_applied.new.bank c.put_applied-2.new.bank r c.args.level (c.args.level + 1) c.args.left c.args.right c.in_ok-eigen.eigen c.in_ok-left.left c.in_ok-right.right (add-one c.args.level)
    c.in_ok-eigen.ensures.kept c.in_ok-left.ensures.kept c.in_ok-right.ensures.kept c.requires.left c.requires.right c.in_ok-eigen.ensures.within c.in_ok-eigen.ensures.tree c.in_ok-left.ensures.within c.in_ok-left.ensures.tree
    c.in_ok-right.ensures.tree
