use Rattle.std.proofs.Common.{◌≡◌, ◌∷◌, ◌++◌, ◌-◌, ◌+◌, ◌*◌, ◌<◌, ◌≤◌, List, length, map, drop, take, [], reverse, replicate, suc}
use Rattle.std.specs.List.{flat_map}
use Rattle.lp_term.specs.Nodes.{Nodes, Extends, tree, type_tree}
use Rattle.lp_bytes.specs.Writing.{text_of, more}
use Rattle.lp_cert.specs.Spelling.{spelled_type}
use Rattle.lp_cert.specs.Same.{types_in}
use Rattle.lp_cert.proofs.types.write_types.Given as goal

abbrev pub invariant-loop-of : goal.invariant-loop-of
invariant-loop-of l = text_of l.writer ≡ more (text_of l.fn.writer) (flat_map spelled_type (types_in l.bank (take l.of-index l.types)))
