use Rattle.std.proofs.Common.{arith, ◌≡◌, length, refl, subst, ap, sym, ◌∙◌}
use Rattle.lp_pattern.proofs.Keeps.{grows_same}
use Rattle.lp_plain.specs.Slots.{AreSlotted}
use Rattle.lp_plain.proofs.OwnValues.{for_rule, one_read, own_opened, own_values_stand}
use Rattle.lp_plain.proofs.attempt.open.Goals as goal

pub returns-clause-more : goal.returns-clause-more
returns-clause-more c =
    let m = c.args.machine.now in
    let vs = c.in_ok-values.values.items in
    let b = m.bank in
    let d = c.slot_values.new.bank in
    let s = m.scopes in
    let z = c.open.new.self in
    let E = c.in_ok-values.ensures.kept in
    let v : c.as_slice.result.now ≡ vs = c.as_slice.ensures.value in
    let o = c.in_ok-scope.ensures in
    record {
      more = record {
        bank = E;
        bindings = grows_same m.bindings;
        blocks = o.blocks;
        values = (c.as_slice.result.now, o.values);
        next = omega (arith, c.in_ok-values.ensures.next);
        next_type = omega arith;
        table = refl;
        index = refl;
        frames = refl;
        assumptions = refl;
        newest = refl;
        standings = refl;
        choices = refl;
        denied = refl;
        counts = refl;
      };
      next_type = refl;
      pairs = refl;
      stands = own_values_stand b d s z c.args.args.now c.as_slice.result.now m.branch.next c.args.level c.rule-found.result.now.slots.items c.args.around.scope
          c.in_ok-scope.scope E (ap length v ∙ c.in_ok-values.ensures.count)
          (λ h. subst (AreSlotted b d c.args.args.now m.branch.next c.args.level c.rule-found.result.now.slots.items) (sym v) (c.in_ok-values.ensures.values h)) o.opened o.values;
    }

pub returns-clause-opened : goal.returns-clause-opened
returns-clause-opened c = λ r e.
    let m = c.args.machine.now in
    let f = c.rule-found.result.now in
    let vs = c.in_ok-values.values.items in
    let b = m.bank in
    let d = c.slot_values.new.bank in
    let s = m.scopes in
    let z = c.open.new.self in
    let E = c.in_ok-values.ensures.kept in
    let v : c.as_slice.result.now ≡ vs = c.as_slice.ensures.value in
    let o = c.in_ok-scope.ensures in
    for_rule f r (one_read m.table.rules.items c.args.rule f r c.rule-found.ensures e) (record {
      bank = E;
      next = c.in_ok-values.ensures.next;
      next_type = refl;
      goals = refl;
      pairs = refl;
      table = refl;
      bindings = refl;
      frames = refl;
      choices = refl;
      denied = refl;
      counts = refl;
      blocks = o.blocks;
      values = (c.as_slice.result.now, o.values);
      types = refl;
      opened = own_opened b d s z c.args.args.now c.as_slice.result.now m.branch.next c.args.level f.slots.items c.args.around.scope c.in_ok-scope.scope E (ap length v ∙ c.in_ok-values.ensures.count)
          (λ h. subst (AreSlotted b d c.args.args.now m.branch.next c.args.level f.slots.items) (sym v) (c.in_ok-values.ensures.values h)) o.opened;
      stands = own_values_stand b d s z c.args.args.now c.as_slice.result.now m.branch.next c.args.level f.slots.items c.args.around.scope
          c.in_ok-scope.scope E (ap length v ∙ c.in_ok-values.ensures.count)
          (λ h. subst (AreSlotted b d c.args.args.now m.branch.next c.args.level f.slots.items) (sym v) (c.in_ok-values.ensures.values h)) o.opened o.values;
    })
