use Rattle.std.proofs.Common.{sym, ap, arith, Some, length, refl}
use Rattle.lp_term.proofs.Spines.{args_after}
use Rattle.lp_model.specs.Pair.{Closing, closed}
use Rattle.lp_term.proofs.Walking.{on_ok}
use Rattle.lp_pattern.specs.Under.{IsReading}
use Rattle.lp_pattern.specs.Seen.{Follows}
use Rattle.lp_pattern.proofs.Walking.{taken_off, whole_stays}
use Rattle.lp_pattern.specs.declared.look.Spine.{Spine}
use Rattle.lp_pattern.proofs.Falls.{head_falls}
use Rattle.lp_pattern.proofs.look.step.Goals as goal

pub returns-in_ok-push_reversed-in-App-clause-stands : goal.returns-in_ok-push_reversed-in-App-clause-stands
returns-in_ok-push_reversed-in-App-clause-stands c = record {
  top = omega (arith, c.in-App.ensures.older.0, c.requires.stands.top);
  arguments =
      args_after c.args.spine.now.top.0 _ c.args.spine.now.arguments.items c.in-App.more.now c.push_reversed.new.stack.items (omega (arith, c.requires.stands.top)) c.requires.stands.arguments c.in-App.ensures.older.1
      c.in_ok-push_reversed-in-App.ensures;
  whole =
      whole_stays c.args.bank.now c.args.spine.now.whole _ _
      (taken_off c.args.bank.now c.args.spine.now.top c.in-App.next c.in-App.more.now c.args.spine.now.arguments.items c.push_reversed.new.stack.items c.in-App.ensures.tree c.in_ok-push_reversed-in-App.ensures)
      c.requires.stands.whole;
}

pub returns-in_ok-push_reversed-in-App-clause-followed : goal.returns-in_ok-push_reversed-in-App-clause-followed
returns-in_ok-push_reversed-in-App-clause-followed c = λ r i. (
  0,
  omega arith,
  ap (λ x. Some (closed r x))
      (sym (taken_off c.args.bank.now c.args.spine.now.top c.in-App.next c.in-App.more.now c.args.spine.now.arguments.items c.push_reversed.new.stack.items c.in-App.ensures.tree c.in_ok-push_reversed-in-App.ensures)),
)

pub returns-in-Abs-clause-followed : goal.returns-in-Abs-clause-followed
returns-in-Abs-clause-followed c =
    on_ok c.contract.result ((r : Closing) → Follows r c.args.bank.now c.args.spine.now c.contract.new.bank c.contract.new.spine)
    ((r : Closing) → IsReading c.args.bank.now c.args.bindings.now r → Follows r c.args.bank.now c.args.spine.now c.contract.new.bank c.contract.new.spine)
    (λ h r i. h r) c.contract.ensures.followed

pub returns-in_ok-push_reversed-in-App-clause-falls : goal.returns-in_ok-push_reversed-in-App-clause-falls
returns-in_ok-push_reversed-in-App-clause-falls c =
    let new : Spine = record c.args.spine.now { top = c.in-App.next; arguments = c.push_reversed.new.stack } in
    head_falls (length c.args.bindings.now.terms.entries) c.args.spine.now new refl refl c.in-App.ensures.older.0
