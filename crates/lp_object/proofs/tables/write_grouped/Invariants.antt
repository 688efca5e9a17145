use Rattle.std.proofs.Common.{◌≡◌, map, take}
use Rattle.std.specs.List.{flat_map}
use Rattle.lp_bytes.specs.Writing.{text_of, more}
use Rattle.lp_object.specs.Plain.{plain_record}
use Rattle.lp_object.specs.Tables.{spelled_groups}
use Rattle.lp_object.proofs.tables.write_grouped.Given as goal

abbrev pub invariant-loop-constant : goal.invariant-loop-constant
invariant-loop-constant l = text_of l.writer ≡ more (text_of l.fn.writer) (flat_map (spelled_groups (map plain_record l.image.code.records.items)) (take l.constant-index l.heads))
