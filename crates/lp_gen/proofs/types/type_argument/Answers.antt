use Rattle.lp_gen.proofs.Arguments.{no_types, argument_at}
use Rattle.lp_gen.proofs.types.type_argument.Goals as goal

pub returns-in_default : goal.returns-in_default
returns-in_default c = no_types c.args.bank.now c.args.number _ c.term_node.result c.args.constant.0 c.term_node.ensures.tree c.term_node.ensures.older c.in_default.not-Const

pub returns : goal.returns
returns c = argument_at c.args.bank.now c.args.number c.in-Const.field-0 c.in-Const.types.now (record { 0 = 0 }) c.args.constant.0 c.if-number-types.false c.in-Const.ensures.tree
