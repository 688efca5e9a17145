use Rattle.std.proofs.Common.{◌≡◌, map, take}
use Rattle.std.specs.List.{flat_map}
use Rattle.lp_bytes.specs.Writing.{text_of, more}
use Rattle.lp_code.specs.Groups.{looked_key}
use Rattle.lp_object.specs.Plain.{plain_record}
use Rattle.lp_object.specs.Tables.{group_of, spelled_group}
use Rattle.lp_object.proofs.tables.write_keyed.Given as goal

abbrev pub invariant-loop-key : goal.invariant-loop-key
invariant-loop-key l = text_of l.writer ≡ more (text_of l.fn.writer) (flat_map (λ k. spelled_group (group_of (map plain_record l.image.code.records.items) l.constant k) k) (map looked_key (take l.key-index l.keys)))
