use Rattle.lp_pattern.proofs.fill_types.filled_type.Goals as goal

pub returns-clause-filled : goal.returns-clause-filled
returns-clause-filled c = λ θ A. (c.in_ok-of.ensures.filled θ A (c.new-done.ensures c.args.bank.now θ)).2
