use Rattle.std.proofs.Common.{◌≡◌, ◌∙◌, length, subst, sym, true, refl, arith}
use Rattle.lp_calculus.specs.Closed.{IsClosedAt}
use Rattle.lp_term.specs.Nodes.{tree, type_tree}
use Rattle.lp_cert.proofs.Closing.{type_is_closed}
use Rattle.lp_cert.proofs.Naming.{of_closed}
use Rattle.lp_cert.proofs.Verdicts.{if_ok_always}
use Rattle.lp_cert.proofs.Later.{closed_inside}
use Rattle.lp_cert.proofs.Going.{stays_where}
use Rattle.lp_cert.proofs.Refusing.{of_open, of_type_open, of_untyped}
use Rattle.lp_cert.proofs.work.Work.is_closed_of.Goals as goal

pub returns-clause-closed : goal.returns-clause-closed
returns-clause-closed c =
    if_ok_always c.has_type.result (λ yes. yes ≡ true → IsClosedAt (length c.args.self.now.eigens.items) (tree c.args.bank.now c.args.term.0))
    (λ yes e. subst (λ n. IsClosedAt n (tree c.args.bank.now c.args.term.0)) c.level-level.ensures (c.in_ok-is_closed_at.ensures.closed c.if-not-branch.false))

pub returns-clause-typed : goal.returns-clause-typed
returns-clause-typed c =
    of_closed c.args.bank.now c.has_type.new.bank c.args.self.now c.as_slice.result.now c.level-level.result c.args.term c.args.of c.has_type.result c.as_slice.ensures.value c.level-level.ensures c.has_type.ensures.kept (c.in_ok-is_closed_at.ensures.closed c.if-not-branch.false)
    (type_is_closed (type_tree c.args.bank.now c.args.of.0) (sym c.in_ok-is_closed_type.ensures.closed ∙ c.if-not-branch-2.false)) c.has_type.ensures.typed

pub returns-clause-stays : goal.returns-clause-stays
returns-clause-stays c = stays_where c.has_type.result _ _ (record { theory = refl; eigens = refl; assumed = refl; tasks = refl })

pub returns-clause-inside : goal.returns-clause-inside
returns-clause-inside c = if_ok_always c.has_type.result _ (λ yes e.
    let l = closed_inside c.args.bank.now _ c.args.term.0 (c.in_ok-is_closed_at.ensures.closed c.if-not-branch.false) in
    let m = c.has_type.ensures.kept.more_terms in
    omega (arith, l, m))

pub returns-then-not-branch-clause-never : goal.returns-then-not-branch-clause-never
returns-then-not-branch-clause-never c = λ e s l m b g o. of_open c.args.bank.now c.args.self.now c.level-level.result c.args.term c.args.of c.level-level.ensures l (c.in_ok-is_closed_at.ensures.open c.if-not-branch.true) b g o

pub returns-then-not-branch-2-clause-never : goal.returns-then-not-branch-2-clause-never
returns-then-not-branch-2-clause-never c = λ e s l m b g o. of_type_open c.args.bank.now c.args.self.now c.args.term c.args.of m (sym c.in_ok-is_closed_type.ensures.closed ∙ c.if-not-branch-2.true) b g o

pub returns-clause-never : goal.returns-clause-never
returns-clause-never c =
    of_untyped c.args.bank.now c.has_type.new.bank c.args.self.now c.as_slice.result.now c.level-level.result c.args.term c.args.of c.has_type.result c.as_slice.ensures.value (c.in_ok-is_closed_at.ensures.closed c.if-not-branch.false)
    (type_is_closed (type_tree c.args.bank.now c.args.of.0) (sym c.in_ok-is_closed_type.ensures.closed ∙ c.if-not-branch-2.false)) c.has_type.ensures.untyped
