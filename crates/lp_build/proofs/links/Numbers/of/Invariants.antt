use Rattle.std.proofs.Common.{take}
use Rattle.lp_build.specs.inner.Linked.{HasSignatures}
use Rattle.lp_build.proofs.links.Numbers.of.Given as goal

abbrev pub invariant-loop-at : goal.invariant-loop-at
invariant-loop-at l = HasSignatures l.numbers (take l.at l.files)
