use Rattle.std.proofs.Common.{◌∙◌, ap, sym, refl, Some, arith}
use Rattle.lp_calculus.specs.Term.{shift}
use Rattle.lp_term.specs.Nodes.{tree}
use Rattle.lp_standard.specs.Connectives.{connective_of}
use Rattle.lp_standard.specs.Connectives as connective
use Rattle.lp_normal.proofs.Steps.{implies_next}
use Rattle.lp_normal.proofs.Comings.{next_later}
use Rattle.lp_normal.proofs.Counts.{new_clauses_met}
use Rattle.lp_term.proofs.Trees.{extends-trans}
use Rattle.lp_normal.specs.inner.Work.{weight}
use Rattle.lp_normal.proofs.Works.{new_clauses_work, lighter, shift_weight}
use Rattle.lp_normal.specs.inner.Kinds.{is_assumed}
use Rattle.lp_normal.proofs.step.assume.Goals as goal

pub returns-clause-comes : goal.returns-clause-comes
returns-clause-comes c = λ out h.
    let b = c.args.bank.now in
    let n = c.raised.new.bank in
    let x = c.in_ok-formula.ensures.kept in
    let e = c.in_ok-inner.ensures in
    let l = c.args.list in
    let w = c.args.next in
    let u = tree b c.args.clause.0 in
    implies_next n l w out c.in_ok-inner.inner (record { outer = l; goal = record { formula = c.args.goal; level = w.level } }) c.in_ok-formula.formula c.args.goal refl refl e.type_vars e.assumed e.done e.waiting e.around u
    (c.in_ok-formula.ensures.tree ∙ ap (λ k. shift 0 k u) c.raise_from-by.ensures)
    (ap connective_of (x.same_terms w.formula.0 c.requires.next.formula) ∙ c.requires.form ∙ ap (connective.Implies u) (sym (x.same_terms c.args.goal.0 c.requires.goal)))
    (next_later b n x l w out c.requires.list c.requires.next h)

pub returns-clause-met : goal.returns-clause-met
returns-clause-met c = λ b.
    let e = c.in_ok-inner.ensures in
    new_clauses_met b c.in_ok-inner.inner (Some (record { outer = c.args.list; goal = record { formula = c.args.goal; level = c.args.next.level } })) e.assumed e.done

pub returns-clause-less : goal.returns-clause-less
returns-clause-less c = λ d x.
    let e = c.in_ok-inner.ensures in
    let i = c.in_ok-formula.ensures in
    let b = c.args.bank.now in
    let y = extends-trans b c.raised.new.bank d i.kept x in
    let u = tree b c.args.clause.0 in
    let form = ap connective_of (y.same_terms c.args.next.formula.0 c.requires.next.formula) ∙ c.requires.form in
    let raised = ap weight (x.same_terms c.in_ok-formula.formula.0 i.within ∙ i.tree) ∙ shift_weight 0 c.raise_from-by.result u in
    omega (
      arith,
      new_clauses_work d c.in_ok-inner.inner c.in_ok-formula.formula (Some (record { outer = c.args.list; goal = record { formula = c.args.goal; level = c.args.next.level } })) e.assumed e.waiting,
      lighter (tree d c.args.next.formula.0) (connective.Implies u (tree b c.args.goal.0)) form,
      raised,
      ap weight (y.same_terms c.args.goal.0 c.requires.goal),
    )

pub returns-clause-kind : goal.returns-clause-kind
returns-clause-kind c = ap is_assumed c.in_ok-inner.ensures.assumed
