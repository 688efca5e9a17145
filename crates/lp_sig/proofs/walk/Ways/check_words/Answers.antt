use Rattle.std.proofs.Common.{map, subst}
use Rattle.std.specs.Prelude.{IfErr, IfOk}
use Rattle.lp_sig.specs.Loading.{NoneLeads}
use Rattle.lp_sig.specs.Walking.{IsCircleFault}
use Rattle.lp_sig.proofs.Circles.{none_of_none}
use Rattle.lp_sig.proofs.Naming.{words_read, words_beyond}
use Rattle.lp_sig.proofs.walk.Ways.check_words.Goals as goal

pub returns-in_default-clause-none : goal.returns-in_default-clause-none
returns-in_default-clause-none c = none_of_none (map (λ out. out.items) c.args.self.now.ways.items) _ c.args.at (words_beyond c.args.self.now.ways.items c.deref.result.now c.args.at c.deref.ensures.value c.in_default.ensures.lookup.3)

pub returns-then-not-branch-clause-none : goal.returns-then-not-branch-clause-none
returns-then-not-branch-clause-none c =
    subst (λ ws. NoneLeads (map (λ out. out.items) c.args.self.now.ways.items) ws c.args.at)
    (words_read c.args.self.now.ways.items c.deref.result.now c.args.at c.in-Some.words.now c.as_slice.result.now c.deref.ensures.value
    c.in-Some.ensures.lookup.3.0 c.in-Some.ensures.lookup.1 c.as_slice.ensures.value)
    (c.in_ok-lead_to.ensures.none c.if-not-branch.true)

pub returns-clause-circle : goal.returns-clause-circle
returns-clause-circle c =
    subst (λ ws. IfErr c.first_leading.result (IsCircleFault (map (λ out. out.items) c.args.self.now.ways.items) ws c.args.at))
    (words_read c.args.self.now.ways.items c.deref.result.now c.args.at c.in-Some.words.now c.as_slice-2.result.now c.deref.ensures.value
    c.in-Some.ensures.lookup.3.0 c.in-Some.ensures.lookup.1 c.as_slice-2.ensures.value)
    c.first_leading.ensures.circle

pub returns-clause-none : goal.returns-clause-none
returns-clause-none c =
    subst (λ ws. IfOk c.first_leading.result (λ done. NoneLeads (map (λ out. out.items) c.args.self.now.ways.items) ws c.args.at))
    (words_read c.args.self.now.ways.items c.deref.result.now c.args.at c.in-Some.words.now c.as_slice-2.result.now c.deref.ensures.value
    c.in-Some.ensures.lookup.3.0 c.in-Some.ensures.lookup.1 c.as_slice-2.ensures.value)
    c.first_leading.ensures.none
