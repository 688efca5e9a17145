use Rattle.lp_plain.proofs.ListReads.{read_at}
use Rattle.lp_plain.proofs.table.Table.rule.Goals as goal

pub returns : goal.returns
returns c = read_at c.args.self.now.rules.items c.deref.result.now c.args.number c.in-Some.rule.now _ c.deref.ensures.value c.in-Some.ensures.lookup.3.0 c.in-Some.ensures.lookup.1
