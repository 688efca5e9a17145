use Rattle.std.proofs.Common.{◌≡◌, ◌-◌, [], length}
use Rattle.lp_bytes.specs.Reading.{left_of, four_at, each_at}
use Rattle.lp_object.proofs.fields.read_numbers.Given as goal

abbrev pub invariant-loop : goal.invariant-loop
invariant-loop l = (length l.records.items ≡ l.counter) × (each_at (λ before. four_at) l.records.items (l.count - l.counter) (left_of l.reader) ≡ each_at (λ before. four_at) [] l.count (left_of l.fn.reader))
