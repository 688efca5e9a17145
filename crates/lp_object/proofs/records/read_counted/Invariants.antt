use Rattle.std.proofs.Common.{◌≡◌, ◌-◌, [], length, map}
use Rattle.lp_bytes.specs.Reading.{left_of, each_at}
use Rattle.lp_code.specs.Length.{AllFit}
use Rattle.lp_object.specs.Plain.{plain_record}
use Rattle.lp_object.specs.Reading.{record_at}
use Rattle.lp_object.proofs.records.read_counted.Given as goal

abbrev pub invariant-loop : goal.invariant-loop
invariant-loop l =
    (length l.records.items ≡ l.counter) × AllFit l.records.items
    × (each_at (λ before. record_at l.width) (map plain_record l.records.items) (l.count - l.counter) (left_of l.reader) ≡ each_at (λ before. record_at l.width) [] l.count (left_of l.fn.reader))
