use Rattle.std.proofs.Common.{arith}
use Rattle.std.proofs.lemmas.Option.{slice_get_past}
use Rattle.lp_plain.proofs.table.Table.has_rule.Goals as goal

pub returns-clause-none : goal.returns-clause-none
returns-clause-none c = λ e. slice_get_past c.args.self.now.rules.items c.args.number (omega (arith, c.if-number-count.false, c.len-count.ensures, c.args.self.now.rules.ok))
