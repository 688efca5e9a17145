use Rattle.lp_term.proofs.Trees.{extends-trans}
use Rattle.lp_cert.specs.Arities.{counts_of}
use Rattle.lp_cert.proofs.Within.{certificate_made}
use Rattle.lp_cert.proofs.Firsts.{certificate_read}
use Rattle.lp_cert.proofs.file.read_certificate.Goals as goal

pub returns-clause-read : goal.returns-clause-read
returns-clause-read c = λ b y.
    let proof = extends-trans _ _ b c.in_ok-proof.ensures.kept y in
    let values = extends-trans _ _ b c.in_ok-values.ensures.kept proof in
    certificate_read (counts_of c.args.arities.now) _ _ _ _ _ _ _ _ _ _ _ c.in_ok-count.ensures (c.in_ok-types.ensures.read b values) c.in_ok-count-2.ensures (c.in_ok-values.ensures.read b proof) (c.in_ok-proof.ensures.read b y)

pub returns-clause-inside : goal.returns-clause-inside
returns-clause-inside c = certificate_made _ _ _ c.in_ok-values.ensures.kept c.in_ok-proof.ensures.kept _ c.in_ok-types.ensures.inside c.in_ok-values.ensures.inside c.in_ok-proof.ensures.inside
