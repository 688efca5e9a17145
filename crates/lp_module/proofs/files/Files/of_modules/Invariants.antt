use Rattle.std.proofs.Common.{take}
use Rattle.lp_module.specs.Copies.{names_of}
use Rattle.lp_module.specs.Files.{HasNames}
use Rattle.lp_module.proofs.files.Files.of_modules.Given as goal

abbrev pub invariant-loop-at : goal.invariant-loop-at
invariant-loop-at l = HasNames l.files (names_of (take l.at l.modules))
