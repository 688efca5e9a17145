use Rattle.std.proofs.Common.{suc, ◌∙◌, ap, sym, refl, arith}
use Rattle.lp_calculus.specs.Term.{shift}
use Rattle.lp_term.specs.Nodes.{tree, type_tree}
use Rattle.lp_standard.specs.Connectives.{body_of, connective_of}
use Rattle.lp_standard.specs.Connectives as connective
use Rattle.lp_normal.proofs.Bounds.{grown_list}
use Rattle.lp_normal.proofs.Steps.{exist_next}
use Rattle.lp_normal.proofs.Comings.{next_later}
use Rattle.lp_normal.proofs.Counts.{open_met}
use Rattle.lp_term.proofs.Trees.{extends-trans}
use Rattle.lp_normal.proofs.Works.{one_more_work, body_lighter}
use Rattle.lp_normal.proofs.step.exists.Goals as goal

pub returns-clause-comes : goal.returns-clause-comes
returns-clause-comes c = λ out h.
    let b = c.args.bank.now in
    let n = c.raised_body.new.bank in
    let x = c.in_ok-inside.ensures.kept in
    let e = c.in_ok-made.ensures in
    let l = c.args.list in
    let w = c.args.next in
    let u = tree b c.args.on.0 in
    exist_next n l w out c.in_ok-made.made c.args.bound c.in_ok-inside.inside e.opened e.done e.waiting e.level (grown_list b n x l c.requires.list).waiting u
    (c.in_ok-inside.ensures.tree ∙ ap (λ k. body_of (shift 0 k u)) c.raise_from-by.ensures)
    (ap connective_of (x.same_terms w.formula.0 c.requires.next.formula) ∙ c.requires.form ∙ ap (λ T. connective.Exists T (body_of u)) (sym (x.same_types c.args.bound.0 c.requires.bound)))
    (next_later b n x l w out c.requires.list c.requires.next h)

pub returns-clause-met : goal.returns-clause-met
returns-clause-met c = λ b.
    let e = c.in_ok-made.ensures in
    open_met b c.in_ok-made.made c.args.list (record { bound = c.args.bound; before = c.args.list.done }) refl e.opened e.done

pub returns-clause-less : goal.returns-clause-less
returns-clause-less c = λ d x.
    let e = c.in_ok-made.ensures in
    let i = c.in_ok-inside.ensures in
    let y = extends-trans c.args.bank.now c.raised_body.new.bank d i.kept x in
    let u = tree c.args.bank.now c.args.on.0 in
    let form = ap connective_of (y.same_terms c.args.next.formula.0 c.requires.next.formula) ∙ c.requires.form in
    let body = x.same_terms c.in_ok-inside.inside.0 i.within ∙ i.tree in
    omega (
      arith,
      one_more_work d c.in_ok-made.made c.args.list (record { formula = c.in_ok-inside.inside; level = suc c.args.list.level }) e.waiting,
      body_lighter (tree d c.in_ok-inside.inside.0) (tree d c.args.next.formula.0) u c.raise_from-by.result (connective.Exists (type_tree c.args.bank.now c.args.bound.0) (body_of u)) form body (λ n l. l),
    )
