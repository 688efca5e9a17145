use Rattle.std.proofs.Common.{◌≡◌, ◌-◌, [], map}
use Rattle.lp_bytes.specs.Reading.{left_of, each_at}
use Rattle.lp_object.specs.Plain.{plain_image_kind}
use Rattle.lp_object.specs.Reading.{image_kind_name, image_kind_at}
use Rattle.lp_object.specs.inner.Known.{Knows}
use Rattle.lp_object.proofs.image.read_counted_kinds.Given as goal

abbrev pub invariant-loop : goal.invariant-loop
invariant-loop l =
    Knows l.names (map image_kind_name (map plain_image_kind l.kinds.items))
    × (each_at image_kind_at (map plain_image_kind l.kinds.items) (l.count - l.counter) (left_of l.reader) ≡ each_at image_kind_at [] l.count (left_of l.fn.reader))
