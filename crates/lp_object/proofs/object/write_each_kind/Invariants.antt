use Rattle.std.proofs.Common.{◌≡◌, map, take}
use Rattle.std.specs.List.{flat_map}
use Rattle.lp_bytes.specs.Writing.{text_of, more}
use Rattle.lp_object.specs.Plain.{plain_object_kind}
use Rattle.lp_object.specs.Files.{spelled_object_kind}
use Rattle.lp_object.proofs.object.write_each_kind.Given as goal

abbrev pub invariant-loop-kind : goal.invariant-loop-kind
invariant-loop-kind l = text_of l.writer ≡ more (text_of l.fn.writer) (flat_map spelled_object_kind (map plain_object_kind (take l.kind-index l.kinds)))
