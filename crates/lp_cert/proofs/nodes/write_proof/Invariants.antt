use Rattle.std.proofs.Common.{◌≡◌, ◌∷◌, ◌++◌, ◌-◌, ◌+◌, ◌*◌, ◌<◌, ◌≤◌, List, length, map, drop, take, [], reverse, replicate, suc}
use Rattle.std.specs.List.{flat_map}
use Rattle.lp_term.specs.Nodes.{Nodes, Extends, tree, type_tree}
use Rattle.lp_bytes.specs.Writing.{text_of, more}
use Rattle.lp_cert.specs.Spelling.{spelled_node}
use Rattle.lp_cert.specs.Written.{node_of}
use Rattle.lp_cert.proofs.nodes.write_proof.Given as goal

abbrev pub invariant-loop-node : goal.invariant-loop-node
invariant-loop-node l = text_of l.writer ≡ more (text_of l.fn.writer) (flat_map spelled_node (map (node_of l.bank) (take l.node-index l.nodes)))
