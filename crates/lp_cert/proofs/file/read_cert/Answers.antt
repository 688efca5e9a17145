use Rattle.std.proofs.Common.{map, arith}
use Rattle.lp_cert.specs.Arities.{counts_in}
use Rattle.std.specs.Global.{Vec}
use Rattle.lp_model.specs.declared.certificate.Certificate as code
use Rattle.lp_cert.specs.Certified.{certificate_of}
use Rattle.lp_cert.proofs.Told.{found_so, only_so}
use Rattle.lp_cert.proofs.file.read_cert.Goals as goal

pub returns-clause-found : goal.returns-clause-found
returns-clause-found c =
    found_so (λ (read : Vec code.Certificate). map (certificate_of c.read_over.new.bank) read.items) c.read_over.result (counts_in c.args.names.now) c.args.bytes.now (λ i. omega (arith, c.type_inv.bytes i)) c.read_over.ensures.exact

pub returns-clause-only : goal.returns-clause-only
returns-clause-only c = only_so (λ (read : Vec code.Certificate). map (certificate_of c.read_over.new.bank) read.items) c.read_over.result (counts_in c.args.names.now) c.args.bytes.now c.read_over.ensures.exact
