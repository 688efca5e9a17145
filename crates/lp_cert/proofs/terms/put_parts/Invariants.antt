use Rattle.std.proofs.Common.{◌≡◌, ◌∷◌, ◌++◌, ◌-◌, ◌+◌, ◌*◌, ◌<◌, ◌≤◌, List, length, map, drop, take, [], reverse, replicate, suc}
use Rattle.lp_term.specs.Nodes.{Nodes, Extends, tree, type_tree}
use Rattle.lp_cert.specs.Reading.{TermTop, terms_made}
use Rattle.lp_cert.specs.inner.Parts.{term_tops_of, terms_stacked}
use Rattle.std.specs.Prelude.{All}
use Rattle.lp_cert.specs.Inside.{AreTermsInside}
use Rattle.lp_cert.specs.inner.Parts.{IsPartInside}
use Rattle.lp_cert.proofs.terms.put_parts.Given as goal

abbrev pub invariant-loop-left : goal.invariant-loop-left
invariant-loop-left l = (l.left ≤ length l.parts) × Extends l.fn.bank l.bank × (All (IsPartInside l.fn.bank) l.parts → AreTermsInside
    (length l.bank.terms) l.stack.items) × ((tops : List TermTop) → ((b : Nodes) → Extends l.fn.bank b → term_tops_of b l.parts ≡ tops) → (b : Nodes)
    → Extends l.bank b → terms_stacked b l.stack.items ≡ terms_made (drop l.left tops))

abbrev pub decreases-loop-left : goal.decreases-loop-left
decreases-loop-left l = l.left
