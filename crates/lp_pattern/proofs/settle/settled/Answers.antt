use Rattle.std.proofs.Common.{◌≡◌, ◌<◌, ◌∙◌, ◌++◌, ◌∷◌, [], ap, arith, ℕ, length, reverse, Some, sym, subst as transport}
use Rattle.lp_term.proofs.Moves.{nothing, passed_up}
use Rattle.lp_term.proofs.Trees.{extends_same, extends-trans}
use Rattle.lp_pattern.specs.declared.settle.Task.TheVariants.{Visit}
use Rattle.lp_model.specs.Pair.{Closing}
use Rattle.lp_model.specs.Scan.{settle}
use Rattle.lp_pattern.specs.Refusing.{IsNothing}
use Rattle.lp_pattern.specs.Settling.{AreEnough, IsLeft, indexed_in}
use Rattle.lp_pattern.specs.Stripping.{IsShut}
use Rattle.lp_pattern.specs.Under.{IsReading, under}
use Rattle.lp_pattern.proofs.GivenUp.{given_before, nothing_given}
use Rattle.lp_pattern.proofs.Walking.{reading_kept}
use Rattle.lp_pattern.proofs.Enough.{first_enough, last_enough, popped_enough}
use Rattle.lp_pattern.proofs.SettleMoves.{settle_begins, settle_ends, settle_goes}
use Rattle.lp_pattern.specs.inner.Falling.{tasks_left}
use Rattle.lp_pattern.proofs.settle.settled.Goals as goal

pub tasks-init : goal.tasks-init
tasks-init c = record {
  kept = extends_same c.args.bank.now;
  enough = transport (AreEnough (reverse c.push.new.self.items)) (sym (ap length c.new-made.ensures.items))
      (first_enough c.push.new.self.items c.args.term c.closed.result (c.in_ok-push.ensures.items ∙ ap (λ l. l ++ Visit c.args.term c.closed.result ∷ []) c.new-tasks.ensures.items));
  leads = λ l r i h n t e.
      settle_begins c.args.bank.now r c.args.side.now.eigens.items c.args.term c.closed.result c.args.side.now.pair c.push.new.self.items c.new-made.result.items n t l c.closed.ensures.level c.closed.ensures.depth
      (c.in_ok-push.ensures.items ∙ ap (λ l. l ++ Visit c.args.term c.closed.result ∷ []) c.new-tasks.ensures.items) c.new-made.ensures.items e;
}

pub returns-in_default-clause-value : goal.returns-in_default-clause-value
returns-in_default-clause-value c = λ l e r i h n t q.
    settle_ends n c.tasks.bank c.put_abstractions.new.bank r c.args.side.now.eigens.items c.args.side.now.pair c.tasks.work.tasks.items c.tasks.work.made.items c.pop-in_default.new.self.items c.in-Some-pop.body c.in_ok-id.id t c.len.result h e
    (nothing c.tasks.work.tasks.items (omega (arith, c.in_default.ensures.cases.0, c.tasks.work.tasks.ok))) c.in-Some-pop.ensures.items (omega (arith, c.len.ensures, c.args.side.now.eigens.ok)) c.in_ok-id.ensures.tree
    (c.tasks.invariant.leads l r i h n t q)

pub tasks-preserved : goal.tasks-preserved
tasks-preserved c = record {
  kept = extends-trans c.args.bank.now c.tasks.bank c.step.new.bank c.tasks.invariant.kept c.in_ok-step.ensures.kept;
  enough = c.in_ok-step.ensures.enough;
  leads = λ l r i h n t e.
      settle_goes n c.args.bank.now c.tasks.bank c.step.new.bank c.args.bindings.now r c.args.side.now.eigens.items c.args.side.now.pair c.tasks.work.tasks.items c.pop.new.self.items c.step.new.work.tasks.items c.in-Some.task
      c.tasks.work.made.items c.step.new.work.made.items t c.tasks.invariant.kept i h c.in-Some.ensures.items (c.tasks.invariant.leads l r i h n t e) c.in_ok-step.ensures.moves;
}

pub returns-in_err-step-clause-refused : goal.returns-in_err-step-clause-refused
returns-in_err-step-clause-refused c =
    passed_up c.from_residual-in_err-step.result c.in_err-step.field-0.0
    (λ e. c.args.term.0 < length c.args.bank.now.terms → (r : Closing) → IsReading c.args.bank.now c.args.bindings.now r → IsShut r → (n : ℕ) → IsNothing n e (settle n c.args.side.now.pair (under c.args.bank.now r c.args.term)))
    c.from_residual-in_err-step.ensures.1
    (λ l r i h n.
    nothing_given n c.in_err-step.field-0.0 (settle n c.args.side.now.pair (under c.args.bank.now r c.args.term)) c.in_err-step.ensures.unfailing
    (λ t q.
    given_before n c.in_err-step.field-0.0 (settle n c.args.side.now.pair (under c.args.bank.now r c.args.term) ≡ Some t)
    (IsLeft n c.tasks.bank r c.args.side.now.eigens.items (c.pop.new.self.items ++ c.in-Some.task ∷ []) c.tasks.work.made.items (indexed_in c.args.side.now.eigens.items c.args.side.now.pair 0 t))
    (λ z. transport (λ x. IsLeft n c.tasks.bank r c.args.side.now.eigens.items x c.tasks.work.made.items (indexed_in c.args.side.now.eigens.items c.args.side.now.pair 0 t)) c.in-Some.ensures.items (c.tasks.invariant.leads l r i h n t z))
    (c.in_err-step.ensures.refused r (reading_kept c.args.bank.now c.tasks.bank c.args.bindings.now r c.tasks.invariant.kept i) h n (indexed_in c.args.side.now.eigens.items c.args.side.now.pair 0 t))))

pub step-requires : goal.step-requires
step-requires c = popped_enough c.tasks.work.tasks.items c.pop.new.self.items c.in-Some.task (length c.tasks.work.made.items) c.in-Some.ensures.items c.tasks.invariant.enough

pub unreachable-requires : goal.unreachable-requires
unreachable-requires c =
    let some = last_enough c.tasks.work.tasks.items (length c.tasks.work.made.items) (nothing c.tasks.work.tasks.items (omega (arith, c.in_default.ensures.cases.0, c.tasks.work.tasks.ok))) c.tasks.invariant.enough in
    omega (arith, some, c.in_default-pop.ensures.cases.0, c.tasks.work.made.ok)

pub tasks-smaller : goal.tasks-smaller
tasks-smaller c = transport (λ l. tasks_left c.step.new.work.tasks.items < tasks_left l) (sym c.in-Some.ensures.items) c.in_ok-step.ensures.falls
