use Rattle.std.proofs.Common.{◌≡◌, min, take}
use Rattle.std.specs.Prelude.{All}
use Rattle.lp_term.specs.Nodes.{Extends}
use Rattle.lp_cert.specs.Facts.{IsKnown}
use Rattle.lp_cert.specs.inner.Left.{CertifiesIn}
use Rattle.lp_cert.proofs.judging.judge.Given as goal

abbrev pub invariant-loop-certificate : goal.invariant-loop-certificate
invariant-loop-certificate l = record {
  kept : Extends l.fn.bank l.bank;
  known : IsKnown l.bank l.known;
  number : l.number ≡ min l.certificate-index 4294967295;
  certified : All (CertifiesIn l.bank l.fn.names.program.constants.items l.fn.names.program.clauses.items l.fn.query) (take l.certificate-index l.fn.certificates);
}
