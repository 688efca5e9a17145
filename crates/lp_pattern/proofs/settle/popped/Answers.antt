use Rattle.std.proofs.Common.{ap, arith, length, reverse}
use Rattle.std.proofs.lemmas.List.{length-append, length-reverse}
use Rattle.lp_pattern.proofs.settle.popped.Goals as goal

pub unreachable-requires : goal.unreachable-requires
unreachable-requires c =
    let i = c.loop.invariant in
    omega (arith, ap length i.made, length-append c.loop.made.items (reverse c.loop.ids.items), length-reverse c.loop.ids.items, i.count, c.loop-test.true, c.requires, c.in_default.ensures.cases.0, c.loop.made.ok)
