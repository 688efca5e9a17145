use Rattle.std.proofs.Common.{◌≡◌, map, drop}
use Rattle.std.specs.List.{flat_map}
use Rattle.lp_bytes.specs.Reading.{left_of}
use Rattle.lp_object.specs.Plain.{plain_record}
use Rattle.lp_object.specs.Reading.{all_expected_at}
use Rattle.lp_object.specs.Tables.{groups_fields}
use Rattle.lp_object.proofs.tables.expect_heads.Given as goal

abbrev pub invariant-loop-constant : goal.invariant-loop-constant
invariant-loop-constant l =
    all_expected_at (flat_map (groups_fields (map plain_record l.image.code.records.items)) (drop l.constant-index l.heads)) (left_of l.reader)
    ≡ all_expected_at (flat_map (groups_fields (map plain_record l.image.code.records.items)) l.heads) (left_of l.fn.reader)
