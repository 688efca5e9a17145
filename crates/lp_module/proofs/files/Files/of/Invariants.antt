use Rattle.std.proofs.Common.{map, take}
use Rattle.std.specs.Prelude.{string_bytes}
use Rattle.lp_module.specs.Files.{HasNames}
use Rattle.lp_module.proofs.files.Files.of.Given as goal

abbrev pub invariant-loop-at : goal.invariant-loop-at
invariant-loop-at l = HasNames l.files (map string_bytes (take l.at l.names))
