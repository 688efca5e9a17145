use Rattle.std.proofs.Common.{arith}
use Rattle.lp_build.proofs.Compiling.{found_number}
use Rattle.lp_build.proofs.build.place_of.Goals as goal

pub returns-then-as_number-module : goal.returns-then-as_number-module
returns-then-as_number-module c = λ all. found_number c.args.group.now.numbers.items c.loop-place.place c.index.result.now _ c.as_number.result c.args.module
    (omega (arith, c.loop-place-test.true, c.len-place-end.ensures, c.args.group.now.numbers.ok)) c.index.ensures c.as_number.ensures.same c.if-as_number-module.true all
