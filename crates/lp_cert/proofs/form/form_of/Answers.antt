use Rattle.std.proofs.Common.{arith}
use Rattle.lp_term.specs.Nodes.{tree}
use Rattle.lp_cert.proofs.Matching.{loose_widens}
use Rattle.lp_cert.proofs.form.form_of.Goals as goal

pub returns-then-not-branch-clause-open : goal.returns-then-not-branch-clause-open
returns-then-not-branch-clause-open c = λ e l k. c.in_ok-is_loose_below.ensures.above c.if-not-branch.true (loose_widens 0 _ 0 (tree c.args.bank.now c.args.term.0) (omega arith) k)
