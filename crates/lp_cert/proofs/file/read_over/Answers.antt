use Rattle.std.proofs.Common.{map}
use Rattle.std.specs.Global.{Vec}
use Rattle.lp_model.specs.declared.certificate.Certificate as code
use Rattle.lp_cert.specs.Certified.{certificate_of}
use Rattle.lp_cert.proofs.Told.{refused_over, read_over}
use Rattle.lp_cert.proofs.file.read_over.Goals as goal

pub returns-in-Ok-clause-exact : goal.returns-in-Ok-clause-exact
returns-in-Ok-clause-exact c = read_over _ _ c.args.bytes.now _ c.of-arities.ensures c.in-Ok.ensures.read

pub returns-in-Err-clause-exact : goal.returns-in-Err-clause-exact
returns-in-Err-clause-exact c = refused_over (λ (read : Vec code.Certificate). map (certificate_of c.read_file.new.bank) read.items) c.in-Err.error c.from.result _ _ c.args.bytes.now c.of-arities.ensures c.from.ensures c.in-Err.ensures.read
