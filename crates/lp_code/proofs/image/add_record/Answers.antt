use Rattle.std.proofs.Common.{rules}
use Rattle.lp_code.proofs.Recording.{recorded_at}
use Rattle.lp_code.proofs.image.add_record.Goals as goal

pub returns-in_ok-add : goal.returns-in_ok-add
returns-in_ok-add c = recorded_at c.args.of.now c.args.number c.in-true-Some-Const.constant (grind rules) (grind rules) c.args.tables.now.entries c.new.result c.or_insert.result.now c.add.new.self c.new.ensures (grind rules) c.in_ok-add.ensures _ (grind rules)
