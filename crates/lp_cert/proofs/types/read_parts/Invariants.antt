use Rattle.std.proofs.Common.{◌≡◌, ◌∷◌, ◌++◌, ◌-◌, ◌+◌, ◌*◌, ◌<◌, ◌≤◌, List, length, map, drop, take, [], reverse, replicate, suc}
use Rattle.lp_bytes.specs.Reading.{left_of, each_at, nested_at}
use Rattle.lp_cert.specs.Arities.{counts_of}
use Rattle.lp_cert.specs.Reading.{type_top_at, type_tops_at, types_below}
use Rattle.lp_cert.specs.inner.Parts.{type_top_of}
use Rattle.lp_cert.proofs.types.read_parts.Given as goal

abbrev pub invariant-loop : goal.invariant-loop
invariant-loop l = (l.wanted ≤ 1 + 255 * l.counter) × (nested_at (λ one. type_top_at (counts_of l.arities)) types_below (map type_top_of l.parts.items) (l.most - l.counter) (replicate l.wanted tt) (left_of l.reader) ≡ type_tops_at (counts_of l.arities) (left_of l.fn.reader))
