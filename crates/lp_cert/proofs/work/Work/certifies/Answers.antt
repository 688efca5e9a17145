use Rattle.lp_cert.proofs.Deriving.{some_is}
use Rattle.lp_cert.proofs.Proving.{certifies_where}
use Rattle.lp_cert.specs.declared.work.Turn.TheVariants.{Deep, No}
use Rattle.std.proofs.Common.{refl, subst, sym}
use Rattle.lp_cert.proofs.Refuted.{large_where, refused_where, unnamed_refused}
use Rattle.lp_cert.specs.Facts.{AreInside}
use Rattle.lp_cert.specs.Inside.{AreTermsInside}
use Rattle.lp_cert.proofs.work.Work.certifies.Goals as goal

pub returns-in-Some-clause-certified : goal.returns-in-Some-clause-certified
returns-in-Some-clause-certified c =
    certifies_where c.proves.result c.instance.new.bank c.proves.new.bank c.args.self.now c.instance.new.self c.args.query.now c.args.certificate.now
    c.as_slice-types.result.now c.as_slice-values.result.now c.as_slice.result.now c.in-Some.goal c.proves.ensures.kept
    c.as_slice-types.ensures.value c.as_slice-values.ensures.value c.as_slice.ensures.value
    c.in_ok-found.ensures.stays (λ idle. some_is _ c.in_ok-found.found c.in-Some.goal c.in-Some.is c.in_ok-found.ensures.named idle.eigens) (some_is _ c.in_ok-found.found c.in-Some.goal c.in-Some.is c.in_ok-found.ensures.filled) c.proves.ensures.proves

pub returns-in-Some-clause-refused : goal.returns-in-Some-clause-refused
returns-in-Some-clause-refused c =
    refused_where c.args.bank.now c.instance.new.bank c.proves.new.bank c.args.self.now c.instance.new.self c.args.query.now c.args.certificate.now
    c.as_slice-types.result.now c.as_slice-values.result.now c.as_slice.result.now c.in-Some.goal c.in_ok-found.ensures.kept c.proves.ensures.kept
    c.as_slice-types.ensures.value c.as_slice-values.ensures.value c.as_slice.ensures.value
    c.in_ok-found.ensures.stays (λ idle. some_is _ c.in_ok-found.found c.in-Some.goal c.in-Some.is c.in_ok-found.ensures.named idle.eigens) (some_is _ c.in_ok-found.found c.in-Some.goal c.in-Some.is c.in_ok-found.ensures.filled)
    (some_is _ c.in_ok-found.found c.in-Some.goal c.in-Some.is c.in_ok-found.ensures.within)
    (λ idle. some_is _ c.in_ok-found.found c.in-Some.goal c.in-Some.is c.in_ok-found.ensures.types idle.eigens)
    (λ idle. some_is _ c.in_ok-found.found c.in-Some.goal c.in-Some.is c.in_ok-found.ensures.tight idle.eigens)
    c.proves.result No c.proves.ensures.refuted

pub returns-in-Some-clause-large : goal.returns-in-Some-clause-large
returns-in-Some-clause-large c =
    large_where c.args.bank.now c.instance.new.bank c.proves.new.bank c.args.self.now c.instance.new.self c.args.query.now c.args.certificate.now
    c.as_slice-types.result.now c.as_slice-values.result.now c.as_slice.result.now c.in-Some.goal c.in_ok-found.ensures.kept c.proves.ensures.kept
    c.as_slice-types.ensures.value c.as_slice-values.ensures.value c.as_slice.ensures.value
    c.in_ok-found.ensures.stays (λ idle. some_is _ c.in_ok-found.found c.in-Some.goal c.in-Some.is c.in_ok-found.ensures.named idle.eigens) (some_is _ c.in_ok-found.found c.in-Some.goal c.in-Some.is c.in_ok-found.ensures.filled)
    (some_is _ c.in_ok-found.found c.in-Some.goal c.in-Some.is c.in_ok-found.ensures.within)
    (λ idle. some_is _ c.in_ok-found.found c.in-Some.goal c.in-Some.is c.in_ok-found.ensures.types idle.eigens)
    (λ idle. some_is _ c.in_ok-found.found c.in-Some.goal c.in-Some.is c.in_ok-found.ensures.tight idle.eigens)
    c.proves.result Deep c.proves.ensures.large

pub returns-in-None-clause-refused : goal.returns-in-None-clause-refused
returns-in-None-clause-refused c = λ e idle w i l b h.
    unnamed_refused c.instance.new.bank b c.args.self.now.theory.constants.now c.args.self.now.theory.clauses.now c.args.query.now c.args.certificate.now c.as_slice-types.result.now c.as_slice-values.result.now h c.as_slice-types.ensures.value c.as_slice-values.ensures.value
    (c.in_ok-found.ensures.unnamed c.in-None.is w.settled idle.eigens i (subst (AreInside _) (sym c.as_slice-types.ensures.value) l.types) (subst (AreTermsInside _) (sym c.as_slice-values.ensures.value) l.values))
