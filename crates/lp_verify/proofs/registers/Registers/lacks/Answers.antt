use Rattle.std.proofs.Common.{◌+◌, get_or, drop}
use Rattle.std.proofs.lemmas.List.{drop_more}
use Rattle.lp_verify.proofs.KeptRegisters.{lacks_here, lacks_behind}
use Rattle.lp_verify.proofs.registers.Registers.lacks.Goals as goal

pub returns-then-is_none : goal.returns-then-is_none
returns-then-is_none g c =
    let ds = c.args.registers.now in
    let n = c.loop-register.register-index in
    lacks_here c.args.self.now (get_or ds n 0) (drop (n + 1) ds) ds (drop n ds) c.get.result c.is_none.result (drop_more ds n 0 c.loop-register-test.true) c.loop-register.invariant c.get.ensures c.is_none.ensures c.if-is_none.true

pub loop-register-preserved : goal.loop-register-preserved
loop-register-preserved g c =
    let ds = c.args.registers.now in
    let n = c.loop-register.register-index in
    lacks_behind c.args.self.now (get_or ds n 0) (drop (n + 1) ds) ds (drop n ds) c.get.result c.is_none.result (drop_more ds n 0 c.loop-register-test.true) c.loop-register.invariant c.get.ensures c.is_none.ensures c.if-is_none.false
