use Rattle.lp_gen.proofs.WrittenTypes.{no_key, inner_key, outer_key}
use Rattle.lp_gen.proofs.record.key_by.Goals as goal

pub returns-in_default : goal.returns-in_default
returns-in_default c = no_key c.args.bank.now c.args.origin c.args.program c.in_default.not-Clause

pub returns-then-not-program : goal.returns-then-not-program
returns-then-not-program c = inner_key c.args.bank.now c.args.origin c.args.program c.in-Clause.clause c.in-Clause.is c.if-not-program.true

pub returns : goal.returns
returns c = outer_key c.args.bank.now c.args.origin c.args.program c.in-Clause.clause c.in_ok-key.key c.in-Clause.is c.if-not-program.false c.in_ok-key.ensures
