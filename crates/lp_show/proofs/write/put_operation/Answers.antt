use Rattle.lp_show.proofs.Writings.{before_written, both_written}
use Rattle.lp_show.specs.Operators.{within_bank}
use Rattle.std.proofs.Common.{subst}
use Rattle.lp_show.proofs.write.put_operation.Goals as goal

pub returns-in_ok-put_show-in-Before : goal.returns-in_ok-put_show-in-Before
returns-in_ok-put_show-in-Before c = λ s w a.
    let b = subst (within_bank s) c.in-Before.is w in
    before_written s c.args.depth c.args.operator.fixity c.args.operator.number c.args.operator.name.now c.args.operator.operands c.args.out.now.items c.in-Before.operand
    c.args.tasks.now.items c.put_bytes.new.tasks.items c.put_bytes-in-Before.new.tasks.items c.put_show-in-Before.new.tasks.items c.in-Before.is
    (c.in_ok-put_bytes-in-Before.ensures s) (c.in_ok-put_bytes-in-Before-2.ensures s) (c.in_ok-put_show-in-Before.ensures s b) a

pub returns-in_ok-put_show-in-Both-2 : goal.returns-in_ok-put_show-in-Both-2
returns-in_ok-put_show-in-Both-2 c = λ s w a.
    let b = subst (within_bank s) c.in-Both.is w in
    both_written s c.args.depth c.args.operator.fixity c.args.operator.number c.args.operator.name.now c.args.operator.operands c.args.out.now.items c.in-Both.first c.in-Both.second
    c.args.tasks.now.items c.put_show-in-Both.new.tasks.items c.put_bytes-in-Both.new.tasks.items c.put_bytes-in-Both-2.new.tasks.items c.put_bytes-in-Both-3.new.tasks.items c.put_show-in-Both-2.new.tasks.items c.in-Both.is
    (c.in_ok-put_show-in-Both.ensures s b.1) (c.in_ok-put_bytes-in-Both.ensures s) (c.in_ok-put_bytes-in-Both-2.ensures s) (c.in_ok-put_bytes-in-Both-3.ensures s) (c.in_ok-put_show-in-Both-2.ensures s b.0) a
