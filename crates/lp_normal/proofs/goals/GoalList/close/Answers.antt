use Rattle.std.proofs.Common.{◌≡◌, refl, ap, subst, length, reverse, arith, [], ◌∙◌}
use Rattle.lp_term.proofs.Moves.{nothing}
use Rattle.lp_normal.specs.Making.{Closes}
use Rattle.lp_normal.proofs.Scopes.{length_push, sigma_within, sigma_closes}
use Rattle.lp_normal.proofs.Counts.{sigma_met}
use Rattle.lp_normal.specs.inner.Met.{opened_met}
use Rattle.lp_normal.proofs.goals.GoalList.close.Goals as goal

pub sigmas-init : goal.sigmas-init
sigmas-init c = record { within = λ b i. (i.opened, i.done); closes = λ b gs out i r k. (gs, r, k); met = λ b. refl }

pub sigmas-smaller : goal.sigmas-smaller
sigmas-smaller c =
    let e : length c.sigmas.opened.items ≡ _ = ap length c.in-Some.ensures.items ∙ length_push c.pop.new.self.items c.in-Some.outer in
    omega (arith, e)

pub sigmas-preserved : goal.sigmas-preserved
sigmas-preserved c = record {
  within = λ b i.
      let k = c.sigmas.invariant.within b i in
      sigma_within b c.sigmas.opened.items c.pop.new.self.items c.in-Some.outer c.sigmas.goals c.push.new.self c.in-Some.ensures.items c.in_ok-push.ensures.items k.0 k.1;
  closes = λ b gs out i r q.
      let k = c.sigmas.invariant.within b i in
      let h = c.sigmas.invariant.closes b gs out i r q in
      sigma_closes b c.sigmas.opened.items c.pop.new.self.items c.in-Some.outer c.sigmas.goals c.push.new.self c.in-Some.ensures.items c.in_ok-push.ensures.items h.0 out k.0 h.1 h.2;
  met = λ b. omega (
    arith,
    c.sigmas.invariant.met b,
    sigma_met b c.sigmas.opened.items c.pop.new.self.items c.in-Some.outer c.sigmas.goals
        c.push.new.self c.in-Some.ensures.items c.in_ok-push.ensures.items,
  );
}

pub returns-clause-within : goal.returns-clause-within
returns-clause-within c = λ b i. (c.sigmas.invariant.within b i).1

pub returns-clause-closes : goal.returns-clause-closes
returns-clause-closes c = λ b gs out i r q later x.
    let h = c.sigmas.invariant.closes b gs out i r q in
    let e : c.sigmas.opened.items ≡ [] = nothing c.sigmas.opened.items (omega (arith, c.in_default.ensures.cases.0, c.sigmas.opened.ok)) in
    h.1 later x ∙ subst (λ z. Closes b (reverse z) h.0 out) e h.2

pub returns-clause-met : goal.returns-clause-met
returns-clause-met c = λ b.
    let e : c.sigmas.opened.items ≡ [] = nothing c.sigmas.opened.items (omega (arith, c.in_default.ensures.cases.0, c.sigmas.opened.ok)) in
    omega (arith, c.sigmas.invariant.met b, ap (opened_met b) e)
