use Rattle.std.proofs.Common.{◌≡◌, ◌∷◌, ◌++◌, ◌-◌, ◌+◌, ◌*◌, ◌<◌, ◌≤◌, List, length, map, drop, take, [], reverse, replicate, suc}
use Rattle.lp_term.specs.Nodes.{Nodes, Extends, tree, type_tree}
use Rattle.lp_bytes.specs.Reading.{left_of, each_at, nested_at}
use Rattle.lp_cert.specs.Arities.{counts_of}
use Rattle.lp_cert.specs.Reading.{node_at, nodes_below, proof_at}
use Rattle.lp_cert.specs.Written.{node_of}
use Rattle.std.specs.Prelude.{All}
use Rattle.lp_cert.specs.Standing.{IsNodeInside}
use Rattle.lp_cert.proofs.nodes.read_proof.Given as goal

abbrev pub invariant-loop : goal.invariant-loop
invariant-loop l = Extends l.fn.bank l.bank × All (IsNodeInside l.bank) l.nodes.items ×
    ((b : Nodes) → Extends l.bank b → nested_at (node_at (counts_of l.arities)) nodes_below (map (node_of b) l.nodes.items) (l.most - l.counter)
    (reverse l.sorts.items) (left_of l.reader) ≡ proof_at (counts_of l.arities) (left_of l.fn.reader))
