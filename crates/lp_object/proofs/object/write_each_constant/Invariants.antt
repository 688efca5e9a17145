use Rattle.std.proofs.Common.{◌≡◌, map, take}
use Rattle.std.specs.List.{flat_map}
use Rattle.lp_bytes.specs.Writing.{text_of, more}
use Rattle.lp_object.specs.Plain.{plain_object_constant}
use Rattle.lp_object.specs.Files.{spelled_object_constant}
use Rattle.lp_object.proofs.object.write_each_constant.Given as goal

abbrev pub invariant-loop-constant : goal.invariant-loop-constant
invariant-loop-constant l = text_of l.writer ≡ more (text_of l.fn.writer) (flat_map spelled_object_constant (map (plain_object_constant l.bank) (take l.constant-index l.constants)))
