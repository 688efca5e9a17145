use Rattle.std.proofs.Common.{arith}
use Rattle.std.proofs.lemmas.Result.{err_from_is_err_and}
use Rattle.lp_lemmas.proofs.Lists.{map_pushed}
use Rattle.lp_term.specs.Nodes.{tree, type_tree}
use Rattle.lp_term.proofs.Trees.{extends-trans}
use Rattle.lp_bytes.proofs.Looping.{goes_on, ends, is_done}
use Rattle.lp_cert.specs.Arities.{counts_of}
use Rattle.std.proofs.Common.{map}
use Rattle.lp_cert.specs.Certified.{certificate_of}
use Rattle.lp_cert.specs.Reading.{certificate_at}
use Rattle.lp_cert.proofs.Within.{certificate_more}
use Rattle.lp_cert.proofs.file.read_certificates.Goals as goal

pub loop-preserved : goal.loop-preserved
loop-preserved c = (
  extends-trans _ _ _ c.loop.invariant.0 c.in_ok-certificate.ensures.kept,
  certificate_more _ _ c.in_ok-certificate.ensures.kept _ _ c.in_ok-certificate.certificate c.in_ok-push.ensures.items c.in_ok-certificate.ensures.inside c.loop.invariant.1,
  λ b y. goes_on (λ before. certificate_at (counts_of c.args.arities.now)) (map (certificate_of b) c.loop.certificates.items) (map (certificate_of b) c.push.new.self.items) _ _ _ _ _ _ (map_pushed (certificate_of b) _ _ c.in_ok-certificate.certificate c.in_ok-push.ensures.items) c.loop-test.true
      (c.in_ok-certificate.ensures.read b y) (c.loop.invariant.2 b (extends-trans _ _ b c.in_ok-certificate.ensures.kept y)),
)

pub returns-in_err-certificate-clause-read : goal.returns-in_err-certificate-clause-read
returns-in_err-certificate-clause-read c = λ b y.
    let p = err_from_is_err_and c.from_residual.result c.from_residual.ensures.1 in
    rw (p.1, p.2) (ends _ (λ before. certificate_at (counts_of c.args.arities.now)) _ _ _ _ _ c.loop-test.true (c.in_err-certificate.ensures.read b y) (c.loop.invariant.2 b (extends-trans _ _ b c.in_err-certificate.ensures.kept y)))

pub returns-clause-read : goal.returns-clause-read
returns-clause-read c = λ b y. is_done (λ before. certificate_at (counts_of c.args.arities.now)) _ _ _ _ _ c.loop-test.false (c.loop.invariant.2 b y)

pub returns-clause-inside : goal.returns-clause-inside
returns-clause-inside c = c.loop.invariant.1
