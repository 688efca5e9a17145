use Rattle.std.proofs.Common.{◌≡◌, ◌∷◌, ◌++◌, ◌-◌, ◌+◌, ◌*◌, ◌<◌, ◌≤◌, List, length, map, drop, take, [], reverse, replicate, suc}
use Rattle.std.specs.List.{flat_map}
use Rattle.lp_term.specs.Nodes.{Nodes, Extends, tree, type_tree}
use Rattle.lp_bytes.specs.Writing.{text_of, more}
use Rattle.lp_cert.specs.Spelling.{spelled_term}
use Rattle.lp_cert.specs.Same.{terms_in}
use Rattle.lp_cert.proofs.terms.write_terms.Given as goal

abbrev pub invariant-loop-term : goal.invariant-loop-term
invariant-loop-term l = text_of l.writer ≡ more (text_of l.fn.writer) (flat_map spelled_term (terms_in l.bank (take l.term-index l.terms)))
