use Rattle.std.proofs.Common.{◌≡◌, ◌∷◌, ◌++◌, ◌-◌, ◌+◌, ◌*◌, ◌<◌, ◌≤◌, List, length, map, drop, take, [], reverse, replicate, suc}
use Rattle.lp_term.specs.Nodes.{Nodes, Extends, tree, type_tree}
use Rattle.lp_bytes.specs.Reading.{left_of, each_at, nested_at}
use Rattle.lp_cert.specs.Arities.{counts_of}
use Rattle.lp_cert.specs.Certified.{certificate_of}
use Rattle.lp_cert.specs.Reading.{certificate_at}
use Rattle.std.specs.Prelude.{All}
use Rattle.lp_cert.specs.Standing.{IsCertificateInside}
use Rattle.lp_cert.proofs.file.read_certificates.Given as goal

abbrev pub invariant-loop : goal.invariant-loop
invariant-loop l = Extends l.fn.bank l.bank × All (IsCertificateInside l.bank) l.certificates.items ×
    ((b : Nodes) → Extends l.bank b → each_at (λ before. certificate_at (counts_of l.arities)) (map (certificate_of b) l.certificates.items)
    (l.count - l.counter) (left_of l.reader) ≡ each_at (λ before. certificate_at (counts_of l.arities)) [] l.count (left_of l.fn.reader))
