use Rattle.std.proofs.Common.{arith, subst, sym, refl, ◌++◌, ◌∷◌, []}
use Rattle.lp_normal.specs.Making.{IsScopeOf}
use Rattle.lp_normal.proofs.Scopes.{in_variable, in_guard}
use Rattle.lp_normal.proofs.clauses.Scope.enter.Goals as goal

pub returns-in_ok-push-in-Variable : goal.returns-in_ok-push-in-Variable
returns-in_ok-push-in-Variable c = λ around i.
    let s = c.args.self.now in
    subst (λ k. IsScopeOf (around ++ k ∷ []) (record { vars = c.push.new.self; body = s.body })) (sym c.in-Variable.is)
    (in_variable s (record { vars = c.push.new.self; body = s.body }) around c.in-Variable.bound c.in_ok-push-in-Variable.ensures.items refl i)

pub returns-in_ok-push-in-Guard : goal.returns-in_ok-push-in-Guard
returns-in_ok-push-in-Guard c = λ around i.
    let s = c.args.self.now in
    subst (λ k. IsScopeOf (around ++ k ∷ []) (record { vars = s.vars; body = c.push-in-Guard.new.self })) (sym c.in-Guard.is)
    (in_guard s (record { vars = s.vars; body = c.push-in-Guard.new.self }) around c.in-Guard.formula _ refl (omega (arith, c.len-level.ensures, s.vars.ok)) c.in_ok-push-in-Guard.ensures.items i)
