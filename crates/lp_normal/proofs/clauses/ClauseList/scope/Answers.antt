use Rattle.std.proofs.Common.{◌≡◌, ◌∙◌, ap, sym, subst, take, arith, add-one, List}
use Rattle.std.proofs.Math.Seq.{take-suc}
use Rattle.lp_term.proofs.Knowing.{take_whole}
use Rattle.lp_normal.specs.declared.clauses.Link.{Link}
use Rattle.lp_normal.specs.Making.{IsScopeOf}
use Rattle.lp_normal.proofs.Scopes.{no_scope, scope_within, scope_vars, scope_body}
use Rattle.lp_normal.proofs.clauses.ClauseList.scope.Goals as goal

pub links-init : goal.links-init
links-init c = no_scope (record { vars = c.new.result; body = c.new-2.result }) c.new.ensures.items c.new-2.ensures.items

pub links-preserved : goal.links-preserved
links-preserved c =
    let xs : List Link = c.as_slice-around.result.now in
    let i = c.links.link-index in
    subst (λ l. IsScopeOf l c.enter.new.self) (sym (ap (λ n. take n xs) (add-one i) ∙ take-suc xs i _ c.links-test.true)) (c.in_ok-enter.ensures (take i xs) c.links.invariant)

pub returns-clause-within : goal.returns-clause-within
returns-clause-within c = λ b i.
    let e : take c.links.link-index c.as_slice-around.result.now ≡ c.args.self.now.around.items = take_whole c.as_slice-around.result.now c.links.link-index (omega (arith, c.links-test.false)) ∙ c.as_slice-around.ensures.value in
    scope_within c.links.scope (record { vars = c.reverse.new.self; body = c.reverse-2.new.self }) c.args.self.now.around.items c.reverse.ensures.items c.reverse-2.ensures.items (subst (λ l. IsScopeOf l c.links.scope) e c.links.invariant) b i.around

pub returns-clause-vars : goal.returns-clause-vars
returns-clause-vars c =
    let e : take c.links.link-index c.as_slice-around.result.now ≡ c.args.self.now.around.items = take_whole c.as_slice-around.result.now c.links.link-index (omega (arith, c.links-test.false)) ∙ c.as_slice-around.ensures.value in
    scope_vars c.links.scope (record { vars = c.reverse.new.self; body = c.reverse-2.new.self }) c.args.self.now.around.items c.reverse.ensures.items c.reverse-2.ensures.items (subst (λ l. IsScopeOf l c.links.scope) e c.links.invariant)

pub returns-clause-body : goal.returns-clause-body
returns-clause-body c =
    let e : take c.links.link-index c.as_slice-around.result.now ≡ c.args.self.now.around.items = take_whole c.as_slice-around.result.now c.links.link-index (omega (arith, c.links-test.false)) ∙ c.as_slice-around.ensures.value in
    scope_body c.links.scope (record { vars = c.reverse.new.self; body = c.reverse-2.new.self }) c.args.self.now.around.items c.reverse.ensures.items c.reverse-2.ensures.items (subst (λ l. IsScopeOf l c.links.scope) e c.links.invariant)
