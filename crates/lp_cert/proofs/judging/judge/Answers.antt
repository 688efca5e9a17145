use Rattle.std.proofs.Common.{◌∙◌, ap, arith, add-one, length, refl, subst, sym, take}
use Rattle.std.proofs.Math.Path.{transport}
use Rattle.std.proofs.lemmas.List.Elements.{All-nil}
use Rattle.lp_term.proofs.Trees.{extends_same, extends-trans}
use Rattle.lp_cert.specs.inner.Left.{CertifiesIn, IsIdle}
use Rattle.lp_cert.proofs.Naming.{certified_next, certified_whole, certified_on}
use Rattle.std.specs.Prelude.{All}
use Rattle.lp_cert.specs.Inside.{AreDeclaredInside}
use Rattle.lp_cert.specs.Standing.{IsClauseInside}
use Rattle.lp_cert.proofs.Refuted.{begins_ready, certificate_inside, large_by, query_later, refused_by, stops_at, deep_number, rejected_number}
use Rattle.lp_cert.proofs.judging.judge.Goals as goal

pub loop-certificate-init : goal.loop-certificate-init
loop-certificate-init c = record { kept = extends_same c.args.bank.now; known = c.new-known.ensures c.args.bank.now; number = refl; certified = All-nil (CertifiesIn c.args.bank.now c.args.names.now.program.constants.items c.args.names.now.program.clauses.items c.args.query.now) }

pub loop-certificate-preserved : goal.loop-certificate-preserved
loop-certificate-preserved c = record {
  kept = extends-trans _ _ _ c.loop-certificate.invariant.kept c.in_ok-turn.ensures.kept;
  known = c.in_ok-turn.ensures.known;
  number = omega (arith, c.saturating_add-number.ensures, c.loop-certificate.invariant.number);
  certified =
      certified_next c.loop-certificate.bank c.certifies.new.bank c.args.names.now.program.constants.items c.args.names.now.program.clauses.items
      c.args.query.now c.args.certificates.now c.loop-certificate.certificate-index _ c.certificate-item.result
      (add-one c.loop-certificate.certificate-index) c.in_ok-turn.ensures.kept (omega (arith, c.loop-certificate-test.true)) c.certificate-item.is
      c.loop-certificate.invariant.certified
      (transport (λ j. CertifiesIn c.certifies.new.bank ((ap (λ t. t.constants.now) c.new-work.ensures.theory ∙ c.of-theory.ensures.constants) j) ((ap (λ t. t.clauses.now) c.new-work.ensures.theory ∙ c.of-theory.ensures.clauses) j) c.args.query.now c.certificate-item.result)
      (c.in_ok-turn.ensures.certified c.in-On.is (record { eigens = c.new-work.ensures.eigens; assumed = c.new-work.ensures.assumed; tasks = c.new-work.ensures.tasks })));
}

pub returns-clause-accepted : goal.returns-clause-accepted
returns-clause-accepted c = λ e. certified_whole c.loop-certificate.bank c.args.names.now.program.constants.items
    c.args.names.now.program.clauses.items c.args.query.now c.args.certificates.now c.loop-certificate.certificate-index
    (omega (arith, c.loop-certificate-test.false)) c.loop-certificate.invariant.certified

pub returns-in-No-clause-rejected : goal.returns-in-No-clause-rejected
returns-in-No-clause-rejected c = λ n e cs ds q k.
    let of_new = c.new-work.ensures.theory in
    let kept = c.loop-certificate.invariant.kept in
    let idle : IsIdle c.new-work.result = record { eigens = c.new-work.ensures.eigens; assumed = c.new-work.ensures.assumed; tasks = c.new-work.ensures.tasks } in
    let constants = ap (λ t. t.constants.now) of_new ∙ c.of-theory.ensures.constants in
    let clauses = ap (λ t. t.clauses.now) of_new ∙ c.of-theory.ensures.clauses in
    stops_at _ _ c.args.certificates.now c.loop-certificate.certificate-index n c.certificate-item.result (omega (arith, c.loop-certificate-test.true)) c.certificate-item.is (let q = rejected_number _ n e in omega (arith, q, c.saturating_add-number.ensures, c.loop-certificate.invariant.number))
    (certified_on c.loop-certificate.bank c.certifies.new.bank c.args.names.now.program.constants.items c.args.names.now.program.clauses.items c.args.query.now (take c.loop-certificate.certificate-index c.args.certificates.now) c.in_ok-turn.ensures.kept c.loop-certificate.invariant.certified)
    (λ b h. refused_by b c.new-work.result c.args.query.now c.certificate-item.result _ _ constants clauses
    (c.in_ok-turn.ensures.refused c.in-No.is idle (begins_ready c.args.bank.now c.loop-certificate.bank c.new-work.result kept idle
    (subst (AreDeclaredInside (length c.args.bank.now.types)) (sym constants) cs) (subst (All (IsClauseInside c.args.bank.now)) (sym clauses) ds))
    (query_later c.args.bank.now c.loop-certificate.bank c.args.query.now kept q) (certificate_inside c.args.bank.now c.loop-certificate.bank
    c.args.certificates.now c.loop-certificate.certificate-index c.certificate-item.result kept (omega (arith, c.loop-certificate-test.true))
    c.certificate-item.is k) b h))

pub returns-in-Deep-clause-deep : goal.returns-in-Deep-clause-deep
returns-in-Deep-clause-deep c = λ n e cs ds q k.
    let of_new = c.new-work.ensures.theory in
    let kept = c.loop-certificate.invariant.kept in
    let idle : IsIdle c.new-work.result = record { eigens = c.new-work.ensures.eigens; assumed = c.new-work.ensures.assumed; tasks = c.new-work.ensures.tasks } in
    let constants = ap (λ t. t.constants.now) of_new ∙ c.of-theory.ensures.constants in
    let clauses = ap (λ t. t.clauses.now) of_new ∙ c.of-theory.ensures.clauses in
    stops_at _ _ c.args.certificates.now c.loop-certificate.certificate-index n c.certificate-item.result (omega (arith, c.loop-certificate-test.true)) c.certificate-item.is (let q = deep_number _ n e in omega (arith, q, c.saturating_add-number.ensures, c.loop-certificate.invariant.number))
    (certified_on c.loop-certificate.bank c.certifies.new.bank c.args.names.now.program.constants.items c.args.names.now.program.clauses.items c.args.query.now (take c.loop-certificate.certificate-index c.args.certificates.now) c.in_ok-turn.ensures.kept c.loop-certificate.invariant.certified)
    (λ b h. large_by b c.new-work.result c.args.query.now c.certificate-item.result _ _ constants clauses
    (c.in_ok-turn.ensures.large c.in-Deep.is idle (begins_ready c.args.bank.now c.loop-certificate.bank c.new-work.result kept idle
    (subst (AreDeclaredInside (length c.args.bank.now.types)) (sym constants) cs) (subst (All (IsClauseInside c.args.bank.now)) (sym clauses) ds))
    (query_later c.args.bank.now c.loop-certificate.bank c.args.query.now kept q) (certificate_inside c.args.bank.now c.loop-certificate.bank
    c.args.certificates.now c.loop-certificate.certificate-index c.certificate-item.result kept (omega (arith, c.loop-certificate-test.true))
    c.certificate-item.is k) b h))
