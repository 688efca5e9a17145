use Rattle.std.proofs.Common.{refl, sym, arith}
use Rattle.lp_lemmas.proofs.Lists.{get_read}
use Rattle.lp_term.specs.Nodes.{tree, type_tree}
use Rattle.lp_bytes.proofs.Lengthened.{more_nothing}
use Rattle.lp_cert.specs.Spelling.{spelled_certificate}
use Rattle.lp_cert.specs.Certified.{certificate_of}
use Rattle.lp_cert.proofs.Waits.{entry_written, entries_written}
use Rattle.lp_cert.proofs.file.write_certificates.Goals as goal

pub loop-certificate-init : goal.loop-certificate-init
loop-certificate-init c = sym (more_nothing c.args.writer.now)

pub loop-certificate-preserved : goal.loop-certificate-preserved
loop-certificate-preserved c =
    entry_written (certificate_of c.args.bank.now) spelled_certificate c.args.certificates.now c.loop-certificate.certificate-index _ _ _ _
    (get_read c.args.certificates.now c.args.certificates.now c.loop-certificate.certificate-index _ _ refl
    (omega (arith, c.loop-certificate-test.true)) c.certificate-item.is)
    c.loop-certificate.invariant c.in_ok-write_certificate.ensures

pub returns : goal.returns
returns c = entries_written (certificate_of c.args.bank.now) spelled_certificate c.args.certificates.now c.loop-certificate.certificate-index _ _ (omega (arith, c.loop-certificate-test.false)) c.loop-certificate.invariant
