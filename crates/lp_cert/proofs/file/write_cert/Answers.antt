use Rattle.std.proofs.Common.{sym}
use Rattle.std.proofs.lemmas.List.{length-map}
use Rattle.lp_bytes.specs.Numbers.{spelled_four}
use Rattle.lp_bytes.proofs.Lengthened.{more_then, all_written, too_many}
use Rattle.lp_cert.specs.Certified.{certificate_of}
use Rattle.lp_cert.specs.Spelling.{spelled_certificates}
use Rattle.lp_cert.proofs.Waits.{counted_so, behind_so}
use Rattle.lp_cert.proofs.file.write_cert.Goals as goal

pub returns-in-Ok-clause-spelled : goal.returns-in-Ok-clause-spelled
unfolding spelled_certificates
returns-in-Ok-clause-spelled c =
    let count = counted_so _ _ (λ n. spelled_four n) _ _ (sym (length-map c.args.certificates.now (certificate_of c.args.bank.now))) c.in_ok-low_four.ensures in
    let begun = behind_so _ _ _ _ c.new-writer.ensures c.in_ok-put.ensures in
    let all = more_then _ _ _ _ _ begun (more_then _ _ _ _ _ c.in_ok-two.ensures (more_then _ _ _ _ _ count c.in_ok-write_certificates.ensures)) in
    all_written _ _ c.in-Ok.bytes.items all c.in-Ok.ensures.bytes

pub returns-in-Err-clause-many : goal.returns-in-Err-clause-many
unfolding spelled_certificates
returns-in-Err-clause-many c =
    let count = counted_so _ _ (λ n. spelled_four n) _ _ (sym (length-map c.args.certificates.now (certificate_of c.args.bank.now))) c.in_ok-low_four.ensures in
    let begun = behind_so _ _ _ _ c.new-writer.ensures c.in_ok-put.ensures in
    let all = more_then _ _ _ _ _ begun (more_then _ _ _ _ _ c.in_ok-two.ensures (more_then _ _ _ _ _ count c.in_ok-write_certificates.ensures)) in
    rw c.in-Err.ensures.many.0 (too_many _ _ all c.in-Err.ensures.many.1)
