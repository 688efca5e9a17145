use Rattle.lp_term.specs.Nodes.{type_tree}
use Rattle.lp_cert.proofs.Matching.{open_differs, open_is, types_push}
use Rattle.lp_cert.proofs.form.Comparing.push_type.Goals as goal

pub returns-then-not-branch-clause-follows : goal.returns-then-not-branch-clause-follows
returns-then-not-branch-clause-follows c = λ k e. open_is (type_tree c.args.bank.now c.args.left.0) _ c.in_ok-is_closed_type.ensures.closed c.if-not-branch.true k

pub returns-then-not-branch-2-clause-follows : goal.returns-then-not-branch-2-clause-follows
returns-then-not-branch-2-clause-follows c = open_differs c.args.bank.now c.args.left c.args.right _ c.in_ok-is_closed_type-2.ensures.closed c.if-not-branch-2.true

pub returns-clause-follows : goal.returns-clause-follows
returns-clause-follows c = λ k h e. types_push c.args.bank.now c.args.self.now.types.items c.push.new.self.items c.args.left c.args.right c.in_ok-push.ensures.items h e
