use Rattle.lp_cert.proofs.Naming.{verdict_certifies}
use Rattle.lp_cert.proofs.Refuted.{stops_now, exact_of}
use Rattle.std.proofs.Common.{refl, sym}
use Rattle.lp_term.proofs.Trees.{extends_same}
use Rattle.lp_cert.specs.Certified.{Certifies, certificate_of, query_of}
use Rattle.lp_cert.specs.Run.{NeedsLargeForm}
use Rattle.lp_cert.specs.inner.Left.{ground_over}
use Rattle.lp_cert.specs.declared.judging.CheckVerdict.TheVariants as verdict
use Rattle.lp_cert.proofs.judging.check.Goals as goal

pub returns-clause-accepted : goal.returns-clause-accepted
returns-clause-accepted c = verdict_certifies c.judge-verdict.new.bank c.args.names.now.program.constants.items c.args.names.now.program.clauses.items c.args.query.now c.args.certificates.now c.judge-verdict.result c.judge-verdict.ensures.accepted

pub returns-clause-same : goal.returns-clause-same
returns-clause-same c = record { declared = refl; clauses = refl; kinds = refl; constants = refl }

pub returns-clause-rejected : goal.returns-clause-rejected
returns-clause-rejected c =
    stops_now c.replace-bank.result c.judge-verdict.new.bank c.args.names.now.program.constants.items c.args.names.now.program.clauses.items c.args.query.now c.args.certificates.now _ (λ x h. h c.judge-verdict.new.bank (extends_same _)) c.judge-verdict.result verdict.Rejected
    (λ d x. Certifies (ground_over d c.args.names.now.program.constants.items c.args.names.now.program.clauses.items) (query_of d c.args.query.now) (certificate_of d x) → ⊥) c.judge-verdict.ensures.rejected c.args.names.now.program (sym c.replace-bank.ensures.value) refl refl

pub returns-clause-deep : goal.returns-clause-deep
returns-clause-deep c =
    stops_now c.replace-bank.result c.judge-verdict.new.bank c.args.names.now.program.constants.items c.args.names.now.program.clauses.items c.args.query.now c.args.certificates.now _ (λ x h. h c.judge-verdict.new.bank (extends_same _)) c.judge-verdict.result verdict.Deep
    (λ d x. NeedsLargeForm (ground_over d c.args.names.now.program.constants.items c.args.names.now.program.clauses.items) (query_of d c.args.query.now) (certificate_of d x)) c.judge-verdict.ensures.deep c.args.names.now.program (sym c.replace-bank.ensures.value) refl refl

pub returns-clause-exact : goal.returns-clause-exact
returns-clause-exact c = exact_of _ _ c.args.certificates.now _ c.judge-verdict.result (returns-clause-rejected c) (returns-clause-deep c)
