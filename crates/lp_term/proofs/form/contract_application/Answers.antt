use Rattle.lp_calculus.specs.Term.{apply}
use Rattle.lp_calculus.specs.Normal.{is_absent}
use Rattle.lp_term.specs.Frame.{in_order}
use Rattle.std.proofs.Common.{refl, ◌∙◌, ap, length}
use Rattle.lp_term.specs.Nodes.{tree}
use Rattle.lp_term.proofs.Contractions.{last_below, other_last, occurs, contracts, value_fits}
use Rattle.lp_term.proofs.form.contract_application.Goals as goal

pub returns-then-not-is_first_index-clause-none : goal.returns-then-not-is_first_index-clause-none
returns-then-not-is_first_index-clause-none c = λ z.
    other_last c.args.bank.now (tree c.args.bank.now c.args.head.0) c.args.args.items c.pop.new.self.items c.in-Some.last c.in-Some.ensures.items (c.if-not-is_first_index.ensures.no refl)

pub returns-then-not-branch-clause-none : goal.returns-then-not-branch-clause-none
returns-then-not-branch-clause-none c = λ z.
    occurs c.args.bank.now (tree c.args.bank.now c.args.head.0) c.args.args.items c.pop.new.self.items c.in-Some.last c.in_ok-is_absent.field-0 c.in-Some.ensures.items (c.if-not-is_first_index.ensures.yes refl) c.if-not-branch.true
    (c.in_ok-is_absent.ensures ∙ ap (λ l. is_absent 0 (apply (tree c.args.bank.now c.args.head.0) (in_order c.args.bank.now l))) c.as_slice.ensures.value)

pub substitute-requires-clause-fits : goal.substitute-requires-clause-fits
substitute-requires-clause-fits c =
    value_fits c.args.bank.now (tree c.args.bank.now c.args.head.0) (tree c.apply_done.new.bank c.in-Some.last.0) (tree c.apply_done.new.bank c.in_ok-top.top.0) c.pop.new.self.items c.in_ok-is_absent.field-0 c.if-not-branch.false
    (c.in_ok-is_absent.ensures ∙ ap (λ l. is_absent 0 (apply (tree c.args.bank.now c.args.head.0) (in_order c.args.bank.now l))) c.as_slice.ensures.value) (c.in_ok-top.ensures.tree ∙ ap (λ l. apply (tree c.args.bank.now c.args.head.0) (in_order c.args.bank.now l)) c.as_slice-2.ensures.value)

pub returns-clause-made : goal.returns-clause-made
returns-clause-made c = (
  c.in_ok-made.ensures.within,
  contracts c.args.bank.now (tree c.args.bank.now c.args.head.0) (tree c.substitute.new.bank c.in_ok-made.made.0) (tree c.apply_done.new.bank c.in-Some.last.0) (tree c.apply_done.new.bank c.in_ok-top.top.0) c.args.args.items
      c.pop.new.self.items c.in-Some.last c.in_ok-is_absent.field-0 c.in-Some.ensures.items (c.if-not-is_first_index.ensures.yes refl)
      c.if-not-branch.false (c.in_ok-is_absent.ensures ∙ ap (λ l. is_absent 0 (apply (tree c.args.bank.now c.args.head.0)
      (in_order c.args.bank.now l))) c.as_slice.ensures.value) (c.in_ok-top.ensures.tree ∙ ap
      (λ l. apply (tree c.args.bank.now c.args.head.0) (in_order c.args.bank.now l)) c.as_slice-2.ensures.value)
      (c.in_ok-top.ensures.kept.same_terms c.in-Some.last.0 (last_below (length c.args.bank.now.terms) c.args.args.items c.pop.new.self.items c.in-Some.last c.in-Some.ensures.items c.requires.args)) c.in_ok-made.ensures.tree,
)
