use Rattle.std.proofs.Common.{◌≡◌, ◌-◌, [], length}
use Rattle.lp_bytes.specs.Reading.{left_of, two_at, each_at}
use Rattle.lp_object.proofs.fields.read_registers.Given as goal

abbrev pub invariant-loop : goal.invariant-loop
invariant-loop l = (length l.registers.items ≡ l.counter) × (each_at (λ before. two_at) l.registers.items (l.count - l.counter) (left_of l.reader) ≡ each_at (λ before. two_at) [] l.count (left_of l.fn.reader))
