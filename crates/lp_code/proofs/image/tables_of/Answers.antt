use Rattle.std.proofs.Common.{arith}
use Rattle.lp_code.proofs.Recording.{turn}
use Rattle.lp_code.proofs.image.tables_of.Goals as goal

pub loop-of-preserved : goal.loop-of-preserved
loop-of-preserved c = (
  grind arith,
  turn c.loop-of.tables.entries c.add_record.new.tables.entries c.of-item.result c.loop-of.of-index c.loop-of.number c.args.records.now (grind arith) c.of-item.is c.loop-of.invariant.0 c.in_ok-add_record.ensures c.loop-of.invariant.1,
)
