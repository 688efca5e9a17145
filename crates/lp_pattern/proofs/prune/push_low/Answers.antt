use Rattle.std.proofs.Common.{arith}
use Rattle.lp_calculus.specs.Term.{atom, eigen}
use Rattle.lp_pattern.proofs.Pushing.{one_more, low_test}
use Rattle.lp_pattern.proofs.prune.push_low.Goals as goal

pub returns-clause-pushed : goal.returns-clause-pushed
returns-clause-pushed c =
    one_more c.args.bank.now c.put_eigen.new.bank c.args.arguments.now.items c.push.new.self.items c.in_ok-id.id _ (atom (eigen c.args.k)) (low_test c.args.k c.args.level (omega (arith, c.if-k-level.false))) c.in_ok-id.ensures.kept
    c.in_ok-id.ensures.within c.in_ok-id.ensures.tree c.in_ok-push.ensures.items
