use Rattle.std.proofs.Common.{◌≡◌, ◌∷◌, ◌++◌, ◌-◌, ◌+◌, ◌*◌, ◌<◌, ◌≤◌, List, length, map, drop, take, [], reverse, replicate, suc}
use Rattle.std.specs.List.{flat_map}
use Rattle.lp_term.specs.Nodes.{Nodes, Extends, tree, type_tree}
use Rattle.lp_bytes.specs.Writing.{text_of, more}
use Rattle.lp_cert.specs.Spelling.{spelled_certificate}
use Rattle.lp_cert.specs.Certified.{certificate_of}
use Rattle.lp_cert.proofs.file.write_certificates.Given as goal

abbrev pub invariant-loop-certificate : goal.invariant-loop-certificate
invariant-loop-certificate l = text_of l.writer ≡ more (text_of l.fn.writer) (flat_map spelled_certificate (map (certificate_of l.bank) (take l.certificate-index l.certificates)))
