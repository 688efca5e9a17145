use Rattle.std.proofs.Common.{◌≡◌, ◌-◌, ◌+◌, ◌*◌, ◌≤◌, map, replicate}
use Rattle.lp_bytes.specs.Reading.{left_of, nested_at}
use Rattle.lp_object.specs.Reading.{scope, type_top_at, type_tops_at, types_below}
use Rattle.lp_object.specs.inner.Parts.{type_top_of}
use Rattle.lp_object.proofs.schemes.read_parts.Given as goal

abbrev pub invariant-loop : goal.invariant-loop
invariant-loop l = (l.wanted ≤ 1 + 255 * l.counter) × (nested_at (λ one. type_top_at (scope l.width l.arities l.variables)) types_below
    (map type_top_of l.parts.items) (l.most - l.counter) (replicate l.wanted tt) (left_of l.reader) ≡ type_tops_at
    (scope l.width l.arities l.variables) (left_of l.fn.reader))
