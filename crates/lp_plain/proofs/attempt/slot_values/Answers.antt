use Rattle.std.proofs.Common.{arith}
use Rattle.lp_term.proofs.Trees.{extends-trans}
use Rattle.lp_plain.proofs.SlotValues.{values_more, longer, slot_read}
use Rattle.lp_plain.proofs.attempt.slot_values.Goals as goal

pub variables-preserved : goal.variables-preserved
variables-preserved c =
    let I = c.variables.invariant in
    let a = c.args.bank.now in
    let b = c.variables.bank in
    let d = c.slot_value.new.bank in
    record {
      kept = extends-trans a b d I.kept c.in_ok-value.ensures.kept;
      count = longer c.variables.values.items c.push.new.self.items c.in_ok-value.value c.variables.number c.in_ok-push.ensures.items I.count;
      id = omega (arith, I.id, c.in-Some.ensures);
      values = λ h.
          values_more a b d c.args.args.now c.args.next c.args.level c.variables.number c.args.slots.now.items _ c.variables.values.items c.push.new.self.items c.in_ok-value.value I.kept c.in_ok-value.ensures.kept h I.count
          c.in_ok-push.ensures.items
          (slot_read c.args.slots.now.items c.variables.number c.index.result.now c.index.ensures (omega (arith, c.variables-test.true, c.len-number-end.ensures, c.args.slots.now.ok))) (I.values h) (c.in_ok-value.ensures.value c.args.next c.variables.number I.id);
    }

pub returns-clause-next : goal.returns-clause-next
returns-clause-next c =
    let I = c.variables.invariant in
    let i = I.id in
    omega (arith, i, c.variables-test.false, c.len-number-end.ensures, c.args.slots.now.ok)
