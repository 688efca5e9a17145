use Rattle.std.proofs.Common.{◌≡◌, ◌∙◌, arith, None, sym, ap, true, false}
use Rattle.lp_lemmas.proofs.Results.{passed_up}
use Rattle.lp_model.specs.Readings.{formula_of}
use Rattle.lp_normal.specs.Making.{these_clauses}
use Rattle.lp_normal.specs.declared.frame.Made.{Made}
use Rattle.lp_normal.proofs.Bounds.{new_clauses}
use Rattle.lp_normal.proofs.Turnings.{flatten_comes}
use Rattle.lp_normal.specs.Counted.{HasManyClauses, IsOver}
use Rattle.lp_normal.proofs.Counts.{new_clauses_met, made_count, over_then}
use Rattle.lp_normal.specs.inner.Kinds.{are_goals, is_assumed}
use Rattle.lp_normal.proofs.flattening.normalise.Goals as goal

pub run-requires-clause-inner : goal.run-requires-clause-inner
run-requires-clause-inner c =
    let e = c.in_ok-list.ensures in
    new_clauses c.form.new.bank c.in_ok-list.list c.in_ok-id.id None e.assumed e.done e.waiting e.around tt c.in_ok-id.ensures.within

pub returns-clause-within : goal.returns-clause-within
returns-clause-within c = rw c.in-Clauses.is at c.in_ok-clauses.ensures.within

pub returns-clause-flattened : goal.returns-clause-flattened
returns-clause-flattened c = λ n d flat later e x.
    let l = c.in_ok-list.ensures in
    let h = flatten_comes 1000000 d c.form.new.bank n (formula_of c.args.bank.now c.args.formula) flat c.in_ok-id.id c.in_ok-list.list
    c.in_ok-id.ensures.form e l.type_vars l.assumed l.done l.waiting l.around in
    let k = rw c.in-Clauses.is at (c.in_ok-clauses.ensures.made (these_clauses flat) h) in
    let i : these_clauses k.0 ≡ these_clauses flat = k.2 in
    let q : k.0 ≡ flat = cc in
    k.1 later x ∙ q

pub run-requires-clause-empty : goal.run-requires-clause-empty
run-requires-clause-empty c = λ b. let e = c.in_ok-list.ensures in new_clauses_met b c.in_ok-list.list None e.assumed e.done

pub returns-in_err-clauses-clause-limit : goal.returns-in_err-clauses-clause-limit
returns-in_err-clauses-clause-limit c =
    let l = c.in_ok-list.ensures in
    let none = new_clauses_met c.form.new.bank c.in_ok-list.list None l.assumed l.done in
    passed_up c.from_residual-in_err-clauses.result c.in_err-clauses.field-0.0 (IsOver (HasManyClauses (formula_of c.args.bank.now c.args.formula))) c.from_residual-in_err-clauses.ensures.1
    (over_then c.in_err-clauses.field-0.0 (λ p n d flat e. p (these_clauses flat) (omega (arith, none))
    (flatten_comes 1000000 d c.form.new.bank n (formula_of c.args.bank.now c.args.formula) flat c.in_ok-id.id c.in_ok-list.list
    c.in_ok-id.ensures.form e l.type_vars l.assumed l.done l.waiting l.around)) c.in_err-clauses.ensures.over)

pub returns-clause-few : goal.returns-clause-few
returns-clause-few c = λ n d flat e more.
    let b = c.run.new.bank in
    let l = c.in_ok-list.ensures in
    let h = flatten_comes 1000000 d c.form.new.bank n (formula_of c.args.bank.now c.args.formula) flat c.in_ok-id.id c.in_ok-list.list
    c.in_ok-id.ensures.form e l.type_vars l.assumed l.done l.waiting l.around in
    let k = rw c.in-Clauses.is at (c.in_ok-clauses.ensures.made (these_clauses flat) h) in
    let m = rw c.in-Clauses.is at (c.in_ok-clauses.ensures.few b) in
    absurd (omega (arith, more, m, made_count b (Made.Clauses c.in-Clauses.clauses) (these_clauses flat) k))

pub unreachable-requires : goal.unreachable-requires
unreachable-requires c = let no : true ≡ false = sym (ap are_goals c.in-Goals.is) ∙ c.in_ok-clauses.ensures.kind ∙ ap is_assumed c.in_ok-list.ensures.assumed in cc
