use Rattle.std.proofs.Common.{◌≡◌, ◌∷◌, ◌++◌, ◌-◌, ◌+◌, ◌*◌, ◌<◌, ◌≤◌, List, length, map, drop, take, [], reverse, replicate, suc}
use Rattle.lp_term.specs.Nodes.{Nodes, Extends, tree, type_tree}
use Rattle.lp_bytes.specs.Writing.{text_of, more}
use Rattle.lp_cert.specs.Spelling.{spelled_term}
use Rattle.lp_cert.specs.inner.Waiting.{terms_waiting}
use Rattle.lp_cert.proofs.terms.write_term.Given as goal

abbrev pub invariant-loop : goal.invariant-loop
invariant-loop l = (more (text_of l.writer) (terms_waiting l.bank l.stack.items) ≡ more (text_of l.fn.writer) (spelled_term (tree l.bank l.fn.term.0))) × (l.counter + length (terms_waiting l.bank l.stack.items) ≤ length (spelled_term (tree l.bank l.fn.term.0)))
