use Rattle.std.proofs.Common.{◌≡◌, ◌∷◌, ◌++◌, ◌-◌, ◌+◌, ◌*◌, ◌<◌, ◌≤◌, List, length, map, drop, take, [], reverse, replicate, suc}
use Rattle.lp_term.specs.Nodes.{Nodes, Extends, tree, type_tree}
use Rattle.lp_bytes.specs.Reading.{left_of, each_at, nested_at}
use Rattle.lp_cert.specs.Arities.{counts_of}
use Rattle.lp_cert.specs.Reading.{term_at, terms_at}
use Rattle.lp_cert.specs.Same.{terms_in}
use Rattle.lp_cert.specs.Inside.{AreTermsInside}
use Rattle.lp_cert.proofs.terms.read_terms.Given as goal

abbrev pub invariant-loop : goal.invariant-loop
invariant-loop l = Extends l.fn.bank l.bank × AreTermsInside (length l.bank.terms) l.terms.items ×
    ((b : Nodes) → Extends l.bank b → each_at (λ before. term_at (counts_of l.arities)) (terms_in b l.terms.items) (l.count - l.counter)
    (left_of l.reader) ≡ terms_at (counts_of l.arities) l.count (left_of l.fn.reader))
