use Rattle.std.proofs.Common.{◌≡◌, ◌∷◌, ◌++◌, ◌-◌, ◌+◌, ◌*◌, ◌<◌, ◌≤◌, List, length, map, drop, take, [], reverse, replicate, suc}
use Rattle.lp_term.specs.Nodes.{Nodes, Extends, tree, type_tree}
use Rattle.lp_bytes.specs.Writing.{text_of, more}
use Rattle.lp_cert.specs.Spelling.{spelled_type}
use Rattle.lp_cert.specs.inner.Waiting.{types_waiting}
use Rattle.lp_cert.proofs.types.write_type.Given as goal

abbrev pub invariant-loop : goal.invariant-loop
invariant-loop l = (more (text_of l.writer) (types_waiting l.bank l.stack.items) ≡ more (text_of l.fn.writer) (spelled_type (type_tree l.bank l.fn.of.0))) × (l.counter + length (types_waiting l.bank l.stack.items) ≤ length (spelled_type (type_tree l.bank l.fn.of.0)))
