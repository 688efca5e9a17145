use Rattle.std.proofs.Common.{◌∙◌, ap, arith}
use Rattle.lp_calculus.specs.Term.{shift}
use Rattle.lp_term.specs.Nodes.{tree}
use Rattle.lp_model.specs.declared.clause.Goal as code
use Rattle.lp_model.specs.Flat.{Atomic, no_goals, goals}
use Rattle.lp_normal.specs.Making.{raised_in}
use Rattle.lp_normal.proofs.Bounds.{with_goal, grown_list}
use Rattle.lp_normal.proofs.Meanings.{atom_is, atom_terms, atom_types}
use Rattle.lp_normal.proofs.Steps.{with_comes, plain_next}
use Rattle.lp_normal.proofs.Comings.{comes_later}
use Rattle.lp_normal.proofs.Counts.{with_met, atom_counts}
use Rattle.lp_normal.proofs.Works.{same_work}
use Rattle.lp_normal.proofs.step.atom.Goals as goal

pub returns-clause-within : goal.returns-clause-within
returns-clause-within c =
    let n = c.raised.new.bank in
    let e = c.in_ok-made.ensures in
    with_goal n c.args.list c.in_ok-made.made (code.Atom c.in_ok-id.id) e.opened e.done e.waiting e.level (grown_list c.args.bank.now n c.in_ok-id.ensures.kept c.args.list c.requires.list)
    (omega (arith, atom_terms c.in_ok-id.id, c.in_ok-id.ensures.within)) (omega (arith, atom_types c.in_ok-id.id))

pub returns-clause-comes : goal.returns-clause-comes
returns-clause-comes c = λ out h.
    let b = c.args.bank.now in
    let n = c.raised.new.bank in
    let e = c.in_ok-made.ensures in
    let id = c.in_ok-id.id in
    let t = raised_in b c.args.list.level c.args.next in
    with_comes n c.args.list c.in_ok-made.made (code.Atom id) (Atomic t) out e.opened e.done e.waiting e.level
    (λ later y. atom_is later id ∙ ap Atomic (y.same_terms id.0 c.in_ok-id.ensures.within ∙ c.in_ok-id.ensures.tree ∙ ap (λ k. shift 0 k (tree b c.args.next.formula.0)) c.raise_from-by.ensures))
    (comes_later b n c.in_ok-id.ensures.kept c.args.list (goals (Atomic t) no_goals) out c.requires.list (plain_next b c.args.list c.args.next out c.requires.form h))

pub returns-clause-met : goal.returns-clause-met
returns-clause-met c = λ b.
    let e = c.in_ok-made.ensures in
    omega (arith, with_met b c.in_ok-made.made c.args.list (code.Atom c.in_ok-id.id) e.opened e.done, atom_counts b c.in_ok-id.id)

pub returns-clause-less : goal.returns-clause-less
returns-clause-less c = λ d x.
    omega (arith, same_work d c.in_ok-made.made c.args.list c.in_ok-made.ensures.waiting)
