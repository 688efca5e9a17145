use Rattle.std.proofs.Common.{take}
use Rattle.lp_judge.specs.inner.Negations.{AreFilesWithout}
use Rattle.lp_judge.proofs.unsupported.not_in_files.Given as goal

abbrev pub invariant-loop-number : goal.invariant-loop-number
invariant-loop-number l = AreFilesWithout (take l.number l.sources.files.items)
