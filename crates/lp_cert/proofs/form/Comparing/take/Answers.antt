use Rattle.lp_cert.proofs.Comparisons.{take_leads}
use Rattle.lp_cert.proofs.Matching.{take_differs, take_follows, take_plain}
use Rattle.std.proofs.Common.{subst, sym}
use Rattle.lp_cert.specs.Same.{TermsFollow}
use Rattle.lp_calculus.specs.Closed.{AllAtoms}
use Rattle.lp_cert.specs.inner.Named.{HasClosedTypes}
use Rattle.lp_cert.proofs.Ready.{apply_atoms}
use Rattle.lp_cert.proofs.form.Comparing.take.Goals as goal

pub returns-clause-leads : goal.returns-clause-leads
returns-clause-leads c =
    take_leads c.args.bank.now c.args.self.now c.push_terms.new.self c.heads.new.self _ _ _ _ _ _ c.heads.result c.in_ok-one.ensures.tree c.in_ok-other.ensures.tree (c.in_ok-push_terms.ensures.equal c.if-not-branch.false c.args.bank.now) c.in_ok-push_terms.ensures.types c.heads.ensures.leads

pub returns-then-not-branch-clause-follows : goal.returns-then-not-branch-clause-follows
returns-then-not-branch-clause-follows c = λ k. take_differs c.args.bank.now c.args.self.now c.push_terms.new.self _ _ _ _ _ _
    c.in_ok-one.ensures.tree c.in_ok-other.ensures.tree c.in_ok-one.ensures.head c.in_ok-other.ensures.head
    (subst (TermsFollow c.args.bank.now c.args.self.now c.push_terms.new.self _ _) c.if-not-branch.true
    (c.in_ok-push_terms.ensures.follows c.args.bank.now))

pub returns-clause-follows : goal.returns-clause-follows
returns-clause-follows c =
    take_follows c.args.bank.now c.args.self.now c.push_terms.new.self c.heads.new.self _ _ _ _ _ _ c.heads.result c.in_ok-one.ensures.tree
    c.in_ok-other.ensures.tree c.in_ok-one.ensures.head c.in_ok-other.ensures.head
    (subst (TermsFollow c.args.bank.now c.args.self.now c.push_terms.new.self _ _) c.if-not-branch.false
    (c.in_ok-push_terms.ensures.follows c.args.bank.now)) c.in_ok-push_terms.ensures.types c.heads.ensures.follows

pub returns-clause-plain : goal.returns-clause-plain
returns-clause-plain c = take_plain c.args.bank.now _ _ _ _ _ _ c.heads.result c.in_ok-one.ensures.tree (c.in_ok-push_terms.ensures.plain c.args.bank.now) c.heads.ensures.plain

pub returns-then-not-branch-clause-plain : goal.returns-then-not-branch-clause-plain
returns-then-not-branch-clause-plain c = λ p a. c.in_ok-push_terms.ensures.plain c.args.bank.now p (apply_atoms HasClosedTypes _ _ (subst (AllAtoms HasClosedTypes) (sym c.in_ok-one.ensures.tree) a)).1
