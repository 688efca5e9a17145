use Rattle.std.proofs.Common.{◌≡◌, map, drop}
use Rattle.std.specs.List.{flat_map}
use Rattle.lp_bytes.specs.Reading.{left_of}
use Rattle.lp_code.specs.Groups.{looked_key}
use Rattle.lp_object.specs.Plain.{plain_record}
use Rattle.lp_object.specs.Reading.{all_expected_at}
use Rattle.lp_object.specs.Tables.{group_fields, group_of}
use Rattle.lp_object.proofs.tables.expect_keyed.Given as goal

abbrev pub invariant-loop-key : goal.invariant-loop-key
invariant-loop-key l =
    all_expected_at (flat_map (λ k. group_fields (group_of (map plain_record l.image.code.records.items) l.constant k) k) (drop l.key-index (map looked_key l.keys))) (left_of l.reader)
    ≡ all_expected_at (flat_map (λ k. group_fields (group_of (map plain_record l.image.code.records.items) l.constant k) k) (map looked_key l.keys)) (left_of l.fn.reader)
