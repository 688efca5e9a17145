use Rattle.lp_gen.proofs.Works.{instance_con}
use Rattle.lp_gen.proofs.types.instance_top.Goals as goal

pub returns-in-Con : goal.returns-in-Con
returns-in-Con c = instance_con c.args.bank.now c.args.constant c.in-Con.kind c.in-Con.parts.now c.args.id.0 c.in-Con.ensures.tree
