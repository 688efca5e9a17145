use Rattle.lp_module.proofs.numbers.Names.below.Goals as goal

pub returns : goal.returns
returns c = record { kinds = c.in_ok-kinds.ensures; constants = c.in_ok-constants.ensures }
