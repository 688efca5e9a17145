use Rattle.std.proofs.Common.{◌≡◌, ◌<◌, ◌++◌, ◌∙◌, [], ◌∷◌, inl, inr, reverse, refl, sym, ap, subst, arith}
use Rattle.lp_calculus.specs.Types.{Ty}
use Rattle.lp_store.specs.Reading.{ReadsType}
use Rattle.lp_model.specs.Types.{visit}
use Rattle.lp_lemmas.proofs.Elements.{All_pushed, All_popped}
use Rattle.lp_lemmas.proofs.Results.{passed_up}
use Rattle.lp_unify.specs.Inside.{AvoidsIn}
use Rattle.lp_unify.specs.TypeTurns.{IsVisited, IsWant}
use Rattle.lp_unify.proofs.TypeVisits.{looking_first, looking_spent, looking_found, looking_on, first_within}
use Rattle.lp_unify.proofs.types.occurs.Goals as goal

only_one : (c : goal.In_ok-push) → c.push.new.self.items ≡ c.args.of ∷ []
only_one c = c.in_ok-push.ensures.items ∙ ap (λ l. l ++ c.args.of ∷ []) c.new-stack.ensures.items

pub types-init : goal.types-init
types-init c = record {
  avoids = λ u a. (All_popped (AvoidsIn c.args.store.now c.args.variable.0) c.push.new.self.items c.new-stack.result.items c.args.of c.in_ok-push.ensures.items a).1;
  looking = λ T r. looking_first c.args.store.now c.args.variable.0 T c.args.of (reverse c.push.new.self.items) c.args.units.now (ap reverse (only_one c)) r;
  first = inl (only_one c);
  fewer = omega arith;
}

pub returns-in_err-spend-clause-spent : goal.returns-in_err-spend-clause-spent
returns-in_err-spend-clause-spent c =
    passed_up c.from_residual-in_err-spend.result c.in_err-spend.field-0.0 (λ e. (T : Ty) → ReadsType c.args.store.now c.args.of.0 T → IsWant e (c.args.units.now < (visit c.args.variable.0 T).units)) c.from_residual-in_err-spend.ensures.1
    (λ T r. subst (λ e. IsWant e (c.args.units.now < (visit c.args.variable.0 T).units)) (sym c.in_err-spend.ensures.spent.0)
    (looking_spent c.args.store.now c.args.variable.0 T c.types.stack.items c.pop.new.self.items c.in-Some.next c.args.units.now c.types.units c.in-Some.ensures.items c.in_err-spend.ensures.spent.1 (c.types.invariant.looking T r)))

pub returns-then-found-clause-seen : goal.returns-then-found-clause-seen
returns-then-found-clause-seen c = λ T r.
    looking_found c.args.store.now c.args.variable.0 T c.types.stack.items c.pop.new.self.items (reverse c.visit.new.stack.items) c.in-Some.next c.referred-top.result c.args.units.now c.types.units c.spend.new.units c.in-Some.ensures.items c.referred-top.ensures.refers c.in_ok-spend.ensures.taken (c.types.invariant.looking T r)
    (λ A q. subst (λ b. IsVisited b c.args.store.now c.args.variable.0 A (reverse c.pop.new.self.items) (reverse c.visit.new.stack.items)) c.if-found.true (c.in_ok-found.ensures.visited c.referred-top.ensures.resolved A q))

pub types-preserved : goal.types-preserved
types-preserved c =
    let s = c.args.store.now in
    let x = c.args.variable.0 in
    let taken = c.in_ok-spend.ensures.taken in
    let fewer = c.types.invariant.fewer in
    record {
      avoids = λ u a. (
          let v = c.in_ok-found.ensures.avoids c.if-found.false u a in
          c.types.invariant.avoids u (All_pushed (AvoidsIn s x) c.types.stack.items c.pop.new.self.items c.in-Some.next c.in-Some.ensures.items v.0 (c.referred-top.ensures.leads x u v.1))
          );
      looking = λ T r. looking_on s x T c.types.stack.items c.pop.new.self.items (reverse c.visit.new.stack.items) c.in-Some.next c.referred-top.result c.args.units.now c.types.units c.spend.new.units c.in-Some.ensures.items c.referred-top.ensures.refers taken (c.types.invariant.looking T r)
          (λ A q. subst (λ b. IsVisited b s x A (reverse c.pop.new.self.items) (reverse c.visit.new.stack.items)) c.if-found.false (c.in_ok-found.ensures.visited c.referred-top.ensures.resolved A q));
      first = inr (first_within s c.types.stack.items c.pop.new.self.items c.args.of c.in-Some.next c.referred-top.result c.types.invariant.first c.in-Some.ensures.items c.referred-top.ensures.refers (c.in_ok-found.ensures.within c.if-found.false));
      fewer = omega (arith, taken, fewer);
    }
