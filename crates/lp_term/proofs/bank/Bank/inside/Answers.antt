use Rattle.std.proofs.Common.{◌≤◌, subst as transport}
use Rattle.lp_term.proofs.Within.{stands_for}
use Rattle.lp_term.proofs.bank.Bank.inside.Goals as goal

pub returns-clause-tree : goal.returns-clause-tree
returns-clause-tree c =
    stands_for c.args.self.now c.put_term.new.self c.args.id c.in_ok-made.made c.in_ok-made.ensures.kept (transport (λ n. n ≤ c.args.id.0) c.term_count.ensures.count c.if-id-term_count.false)
    c.in_ok-made.ensures.tree
