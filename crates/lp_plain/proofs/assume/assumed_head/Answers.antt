use Rattle.std.proofs.Common.{◌≡◌, ℕ, ◌+◌, ◌∙◌, sym, ap, length, arith, Some}
use Rattle.lp_calculus.specs.Term.{Term, atom, eigen}
use Rattle.lp_model.specs.Flat.{Clause}
use Rattle.lp_plain.specs.declared.head.Head.{Head}
use Rattle.lp_plain.specs.declared.types.Renewal.{Renewal}
use Rattle.lp_plain.specs.Assuming.{clause_in, head_at}
use Rattle.lp_plain.specs.Entries.{HasValues}
use Rattle.lp_plain.specs.Scopes.{blocks_of}
use Rattle.lp_plain.specs.Tables.{IsRule, Never, shown}
use Rattle.lp_plain.proofs.Assumed.{constant_head, eigen_head}
use Rattle.lp_plain.proofs.HeadsWritten.{each_head, no_constant, no_index, no_other_head, behind_own, outer_bound, rule_there}
use Rattle.lp_plain.proofs.assume.assumed_head.Goals as goal

pub returns-then-not-has_rule-clause-none : goal.returns-then-not-has_rule-clause-none
returns-then-not-has_rule-clause-none c = λ e ar w. rule_there c.args.machine.now ar c.args.place c.args.rule w (c.has_rule.ensures.none c.if-not-has_rule.true)

pub returns-in-Const-clause-is : goal.returns-in-Const-clause-is
returns-in-Const-clause-is c = λ k σ t v r.
    let m = c.args.machine.now in
    constant_head m.bank (shown m.table) c.args.rule k r σ c.in-Const.number _ c.rule-found.result.now t c.rule-found.ensures c.in-Const.ensures.tree

pub returns-in-Some-clause-is : goal.returns-in-Some-clause-is
returns-in-Some-clause-is c =
    let m = c.args.machine.now in
    let l : c.in-Index.at ≡ length c.rule-found.result.now.slots.items + c.in-Some.outer = omega (arith, c.in-Some.ensures.0, c.in-Some.ensures.1, c.len.ensures, c.rule-found.result.now.slots.ok) in
    each_head c.bound_head.result
    (λ h. (σ : ℕ → Term) → HasValues m.bank (blocks_of m.scopes) c.args.place.values.scope σ → (k : ℕ) × (h ≡ Head.Eigen k) × (σ c.in-Some.outer ≡ atom (eigen k)))
    (λ h. (k : Clause) (σ : ℕ → Term) → IsRule m.bank Never (shown m.table) c.args.rule k → HasValues m.bank (blocks_of m.scopes) c.args.place.values.scope σ → (r : Renewal) → head_at (clause_in σ r k) ≡ Some h)
    (λ h f k σ t v r.
    let e = f σ v in
    eigen_head m.bank (shown m.table) c.args.rule k r σ c.in-Index.at c.in-Some.outer e.0 c.rule-found.result.now t c.rule-found.ensures c.in-Index.ensures.tree l e.2 ∙ ap (λ x. Some x) (sym e.1))
    c.bound_head.ensures.is

pub returns-in-Some-clause-none : goal.returns-in-Some-clause-none
returns-in-Some-clause-none c = λ e ar w.
    let m = c.args.machine.now in
    outer_bound m ar c.args.place c.args.rule w c.rule-found.result.now c.rule-found.ensures c.in-Index.at c.in-Some.outer c.in-Index.ensures.tree
    (omega (arith, c.in-Some.ensures.0, c.in-Some.ensures.1, c.len.ensures, c.rule-found.result.now.slots.ok)) (c.bound_head.ensures.none e)

pub returns-in_default-checked_sub-clause-none : goal.returns-in_default-checked_sub-clause-none
returns-in_default-checked_sub-clause-none c = λ e ar w.
    let m = c.args.machine.now in
    let h = behind_own m ar c.args.place c.args.rule w c.rule-found.result.now c.rule-found.ensures c.in-Index.at c.in-Index.ensures.tree in
    c.in_default-checked_sub.ensures (omega (arith, h, c.len.ensures, c.rule-found.result.now.slots.ok))

pub returns-in_default-clause-none : goal.returns-in_default-clause-none
returns-in_default-clause-none c = λ e ar w.
    let m = c.args.machine.now in
    no_other_head m ar c.args.place c.args.rule w c.rule-found.result.now c.rule-found.ensures _ _ c.term_node.result c.term_node.ensures.older c.term_node.ensures.tree
    (no_index c.term_node.result c.in_default.not-Index) (no_constant c.term_node.result c.in_default.not-Const)

pub rule-found-requires : goal.rule-found-requires
rule-found-requires c = c.has_rule.ensures.there c.if-not-has_rule.false
