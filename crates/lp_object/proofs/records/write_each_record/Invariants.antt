use Rattle.std.proofs.Common.{◌≡◌, map, take}
use Rattle.std.specs.List.{flat_map}
use Rattle.lp_bytes.specs.Writing.{text_of, more}
use Rattle.lp_object.specs.Plain.{plain_record}
use Rattle.lp_object.specs.Spelling.{spelled_record}
use Rattle.lp_object.proofs.records.write_each_record.Given as goal

abbrev pub invariant-loop-next : goal.invariant-loop-next
invariant-loop-next l = text_of l.writer ≡ more (text_of l.fn.writer) (flat_map (spelled_record l.width) (map plain_record (take l.next-index l.records)))
