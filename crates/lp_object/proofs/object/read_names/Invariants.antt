use Rattle.std.proofs.Common.{◌≡◌, ◌-◌, [], map}
use Rattle.lp_bytes.specs.Reading.{left_of, each_at}
use Rattle.lp_object.specs.Reading.{name_at}
use Rattle.lp_object.proofs.object.read_names.Given as goal

abbrev pub invariant-loop : goal.invariant-loop
invariant-loop l = each_at (λ before. name_at) (map (λ u. u.items) l.uses.items) (l.count - l.counter) (left_of l.reader) ≡ each_at (λ before. name_at) [] l.count (left_of l.fn.reader)
