use Rattle.std.proofs.Common.{◌≡◌, ◌-◌, [], map}
use Rattle.lp_term.specs.Nodes.{Nodes, Extends}
use Rattle.lp_bytes.specs.Reading.{left_of, each_at}
use Rattle.lp_object.specs.Plain.{plain_image_constant}
use Rattle.lp_object.specs.Reading.{image_constant_at}
use Rattle.lp_object.specs.inner.Known.{Knows, image_constant_told}
use Rattle.lp_object.proofs.image.read_counted_constants.Given as goal

abbrev pub invariant-loop : goal.invariant-loop
invariant-loop l =
    Extends l.fn.bank l.bank × Knows l.names (map image_constant_told l.constants.items)
    × ((b : Nodes) → Extends l.bank b → each_at (image_constant_at l.width l.arities) (map (plain_image_constant b) l.constants.items) (l.count - l.counter) (left_of l.reader) ≡ each_at (image_constant_at l.width l.arities) [] l.count (left_of l.fn.reader))
