use Rattle.std.proofs.Common.{◌≡◌, ◌∷◌, ◌++◌, ◌-◌, ◌+◌, ◌*◌, ◌<◌, ◌≤◌, List, length, map, drop, take, [], reverse, replicate, suc}
use Rattle.lp_term.specs.Nodes.{Nodes, Extends, tree, type_tree}
use Rattle.lp_bytes.specs.Reading.{left_of, each_at, nested_at}
use Rattle.lp_cert.specs.Arities.{counts_of}
use Rattle.lp_cert.specs.Reading.{term_top_at, term_tops_at, terms_below}
use Rattle.lp_cert.specs.inner.Parts.{term_tops_of}
use Rattle.std.specs.Prelude.{All}
use Rattle.lp_cert.specs.inner.Parts.{IsPartInside}
use Rattle.lp_cert.proofs.terms.read_parts.Given as goal

abbrev pub invariant-loop : goal.invariant-loop
invariant-loop l = (l.wanted ≤ 1 + 2 * l.counter) × Extends l.fn.bank l.bank × All (IsPartInside l.bank) l.parts.items ×
    ((b : Nodes) → Extends l.bank b → nested_at (λ one. term_top_at (counts_of l.arities)) terms_below (term_tops_of b l.parts.items)
    (l.most - l.counter) (replicate l.wanted tt) (left_of l.reader) ≡ term_tops_at (counts_of l.arities) (left_of l.fn.reader))
