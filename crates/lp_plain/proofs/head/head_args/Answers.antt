use Rattle.std.proofs.Common.{◌≡◌, ◌∙◌, length, map, arith, ap, false, None}
use Rattle.lp_plain.specs.Heads.{pair_in}
use Rattle.lp_plain.proofs.HeadPlaces.{filled_more, none_known, none_done, known_more, term_at_place, arg_done, read_at}
use Rattle.lp_plain.proofs.HeadsJoined.{are_slotted, are_paired}
use Rattle.lp_plain.proofs.head.head_args.Goals as goal

pub variables-preserved : goal.variables-preserved
variables-preserved c =
    let I = c.variables.invariant in
    let s = filled_more false c.variables.seen.items c.push.new.self.items c.variables.number c.in_ok-push.ensures.items I.seen I.count in
    let t = filled_more None c.variables.made.slots.items c.push-in-variables.new.self.items c.variables.number c.in_ok-push-2.ensures.items I.slots I.slot_count in
    record { seen = s.0; count = s.1; slots = t.0; slot_count = t.1; pairs = I.pairs }

pub arguments-init : goal.arguments-init
arguments-init c =
    let I = c.variables.invariant in
    let e : c.variables.number ≡ c.args.vars = omega (arith, c.variables-test.false, c.variables.auto.number-end) in
    record {
      within = λ _. none_known (length c.args.bank.now.terms) c.variables.made.pairs.items I.pairs;
      done = none_done c.args.vars c.variables.seen.items c.variables.made.slots.items (map (pair_in c.args.bank.now) c.variables.made.pairs.items) I.seen (I.count ∙ e) I.slots (I.slot_count ∙ e) (ap (map (pair_in c.args.bank.now)) I.pairs);
    }

pub arguments-preserved : goal.arguments-preserved
arguments-preserved c =
    let I = c.arguments.invariant in
    let d = c.in_ok-add_arg.ensures in
    record {
      within = λ a. known_more (length c.args.bank.now.terms) _ c.arguments.place _ c.arguments.made.pairs.items c.add_arg.new.made.pairs.items d.pairs (term_at_place (length c.args.bank.now.terms) c.args.args.now c.arguments.place _ (omega (arith, c.arguments-test.true)) a) (I.within a);
      done =
          arg_done c.args.bank.now c.args.vars c.args.args.now c.arguments.seen.items c.add_arg.new.seen.items c.arguments.made.slots.items c.add_arg.new.made.slots.items c.arguments.made.pairs.items c.add_arg.new.made.pairs.items
          c.arguments.place _ (omega (arith, c.arguments-test.true)) (read_at c.args.args.now c.arguments.place _ (omega (arith, c.arguments-test.true))) I.done d.marks d.slots d.pairs;
    }

pub returns-clause-slotted : goal.returns-clause-slotted
returns-clause-slotted c =
    are_slotted c.args.bank.now c.args.vars c.arguments.place c.args.args.now c.arguments.seen.items c.arguments.made.slots.items (map (pair_in c.args.bank.now) c.arguments.made.pairs.items)
    (omega (arith, c.arguments-test.false)) c.arguments.invariant.done

pub returns-clause-paired : goal.returns-clause-paired
returns-clause-paired c =
    are_paired c.args.bank.now c.args.vars c.arguments.place c.args.args.now c.arguments.seen.items c.arguments.made.slots.items (map (pair_in c.args.bank.now) c.arguments.made.pairs.items)
    (omega (arith, c.arguments-test.false)) c.arguments.invariant.done
