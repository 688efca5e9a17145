use Rattle.std.proofs.Common.{◌≡◌, ◌-◌, [], map}
use Rattle.lp_term.specs.Nodes.{Nodes, Extends}
use Rattle.lp_bytes.specs.Reading.{left_of, each_at}
use Rattle.lp_object.specs.Plain.{plain_object_constant}
use Rattle.lp_object.specs.Reading.{object_constant_at}
use Rattle.lp_object.specs.inner.Known.{Knows, object_constant_told}
use Rattle.lp_object.proofs.object.read_counted_constants.Given as goal

abbrev pub invariant-loop : goal.invariant-loop
invariant-loop l =
    Extends l.fn.bank l.bank × Knows l.names (map object_constant_told l.constants.items)
    × ((b : Nodes) → Extends l.bank b → each_at (object_constant_at l.arities) (map (plain_object_constant b) l.constants.items) (l.count - l.counter) (left_of l.reader) ≡ each_at (object_constant_at l.arities) [] l.count (left_of l.fn.reader))
