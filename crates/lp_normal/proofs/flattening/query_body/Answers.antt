use Rattle.std.proofs.Common.{◌≡◌, ◌∙◌, refl, arith, sym, ap, true, false}
use Rattle.lp_lemmas.proofs.Results.{passed_up}
use Rattle.lp_term.specs.Nodes.{tree}
use Rattle.lp_normal.specs.Making.{these_goals}
use Rattle.lp_normal.specs.declared.frame.Made.{Made}
use Rattle.lp_normal.proofs.Bounds.{new_list}
use Rattle.lp_normal.proofs.Turnings.{query_comes}
use Rattle.lp_normal.specs.Counted.{AssumesManyClauses, IsOver}
use Rattle.lp_normal.proofs.Counts.{new_met, made_count, over_then}
use Rattle.lp_normal.specs.inner.Kinds.{are_goals}
use Rattle.lp_normal.proofs.flattening.query_body.Goals as goal

pub run-requires-clause-inner : goal.run-requires-clause-inner
run-requires-clause-inner c =
    let e = c.in_ok-list.ensures in
    new_list c.form.new.bank c.in_ok-list.list (record { formula = c.in_ok-formula.formula; level = 0 }) 0 e.opened e.done e.waiting e.level
    (record { formula = c.in_ok-formula.ensures.within; outside = omega arith })

pub returns-clause-within : goal.returns-clause-within
returns-clause-within c = rw c.in-Goals.is at c.in_ok-goals.ensures.within

pub returns-clause-flattened : goal.returns-clause-flattened
returns-clause-flattened c = λ n d flat later e x.
    let l = c.in_ok-list.ensures in
    let h = query_comes 1000000 d c.form.new.bank n (tree c.args.bank.now c.args.query.now.formula.0) flat
    (record { formula = c.in_ok-formula.formula; level = 0 }) c.in_ok-list.list refl c.in_ok-formula.ensures.form e l.opened l.done l.waiting
    l.level in
    let k = rw c.in-Goals.is at (c.in_ok-goals.ensures.made (these_goals flat) h) in
    let i : these_goals k.0 ≡ these_goals flat = k.2 in
    let q : k.0 ≡ flat = cc in
    k.1 later x ∙ q

pub run-requires-clause-empty : goal.run-requires-clause-empty
run-requires-clause-empty c = λ b. let e = c.in_ok-list.ensures in new_met b c.in_ok-list.list e.opened e.done

pub returns-in_err-goals-clause-limit : goal.returns-in_err-goals-clause-limit
returns-in_err-goals-clause-limit c =
    let l = c.in_ok-list.ensures in
    let none = new_met c.form.new.bank c.in_ok-list.list l.opened l.done in
    passed_up c.from_residual-in_err-goals.result c.in_err-goals.field-0.0 (IsOver (AssumesManyClauses (tree c.args.bank.now c.args.query.now.formula.0))) c.from_residual-in_err-goals.ensures.1
    (over_then c.in_err-goals.field-0.0 (λ p n d flat e. p (these_goals flat) (omega (arith, none))
    (query_comes 1000000 d c.form.new.bank n (tree c.args.bank.now c.args.query.now.formula.0) flat
    (record { formula = c.in_ok-formula.formula; level = 0 }) c.in_ok-list.list refl c.in_ok-formula.ensures.form e l.opened l.done l.waiting
    l.level)) c.in_err-goals.ensures.over)

pub returns-clause-few : goal.returns-clause-few
returns-clause-few c = λ n d flat e more.
    let b = c.run.new.bank in
    let l = c.in_ok-list.ensures in
    let h = query_comes 1000000 d c.form.new.bank n (tree c.args.bank.now c.args.query.now.formula.0) flat
    (record { formula = c.in_ok-formula.formula; level = 0 }) c.in_ok-list.list refl c.in_ok-formula.ensures.form e l.opened l.done l.waiting
    l.level in
    let k = rw c.in-Goals.is at (c.in_ok-goals.ensures.made (these_goals flat) h) in
    let m = rw c.in-Goals.is at (c.in_ok-goals.ensures.few b) in
    absurd (omega (arith, more, m, made_count b (Made.Goals c.in-Goals.goals) (these_goals flat) k))

pub unreachable-requires : goal.unreachable-requires
unreachable-requires c = let no : false ≡ true = sym (ap are_goals c.in-Clauses.is) ∙ c.in_ok-goals.ensures.kind in cc
