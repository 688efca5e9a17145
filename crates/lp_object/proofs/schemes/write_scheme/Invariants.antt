use Rattle.std.proofs.Common.{◌+◌, ◌≤◌, ◌≡◌, length}
use Rattle.lp_term.specs.Nodes.{type_tree}
use Rattle.lp_bytes.specs.Writing.{text_of, more}
use Rattle.lp_object.specs.Spelling.{spelled_type}
use Rattle.lp_object.specs.inner.Waiting.{waiting}
use Rattle.lp_object.proofs.schemes.write_scheme.Given as goal

abbrev pub invariant-loop : goal.invariant-loop
invariant-loop l =
    (more (text_of l.writer) (waiting l.width l.bank l.stack.items) ≡ more (text_of l.fn.writer) (spelled_type l.width (type_tree l.bank l.fn.scheme.0)))
    × (l.counter + length (waiting l.width l.bank l.stack.items) ≤ length (spelled_type l.width (type_tree l.bank l.fn.scheme.0)))
