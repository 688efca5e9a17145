use Rattle.std.proofs.Common.{◌≡◌, ◌∷◌, ◌++◌, ◌-◌, ◌+◌, ◌*◌, ◌<◌, ◌≤◌, List, length, map, drop, take, [], reverse, replicate, suc}
use Rattle.lp_term.specs.Nodes.{Nodes, Extends, tree, type_tree}
use Rattle.lp_bytes.specs.Reading.{left_of, each_at, nested_at}
use Rattle.lp_cert.specs.Arities.{counts_of}
use Rattle.lp_cert.specs.Reading.{type_at, types_at}
use Rattle.lp_cert.specs.Same.{types_in}
use Rattle.lp_cert.specs.Facts.{AreInside}
use Rattle.lp_cert.proofs.types.read_types.Given as goal

abbrev pub invariant-loop : goal.invariant-loop
invariant-loop l = Extends l.fn.bank l.bank × AreInside (length l.bank.types) l.types.items ×
    ((b : Nodes) → Extends l.bank b → each_at (λ before. type_at (counts_of l.arities)) (types_in b l.types.items) (l.count - l.counter)
    (left_of l.reader) ≡ types_at (counts_of l.arities) l.count (left_of l.fn.reader))
