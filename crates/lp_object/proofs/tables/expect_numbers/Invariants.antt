use Rattle.std.proofs.Common.{◌≡◌, map, drop}
use Rattle.lp_bytes.specs.Numbers.{spelled_four}
use Rattle.lp_bytes.specs.Reading.{left_of}
use Rattle.lp_object.specs.Reading.{all_expected_at}
use Rattle.lp_object.proofs.tables.expect_numbers.Given as goal

abbrev pub invariant-loop-number : goal.invariant-loop-number
invariant-loop-number l = all_expected_at (drop l.number-index (map spelled_four l.numbers)) (left_of l.reader) ≡ all_expected_at (map spelled_four l.numbers) (left_of l.fn.reader)
