use Rattle.std.proofs.Common.{◌≡◌, ◌∙◌, ap, arith, w64, to_z, of_z, refl, subst, sym}
use Rattle.std.proofs.lemmas.Int.{to_z-of_z}
use Rattle.lp_model.specs.Values.{ordered}
use Rattle.lp_plain.specs.declared.outcome.Turn.{Turn}
use Rattle.lp_plain.specs.Forms.{order_number}
use Rattle.lp_plain.specs.Assigned.{ComparesWith, turn_if}
use Rattle.lp_plain.proofs.atomic.compare_with.Goals as goal

pub returns-in-Ok : goal.returns-in-Ok
returns-in-Ok c =
    let p = to_z-of_z w64 c.args.one c.ranges.one in
    let q : to_z w64 (of_z w64 c.in-Ok.other) ≡ c.in-Ok.other = grind (arith, to_z-of_z) in (
      c.in_ok-other.field-0,
      c.in_ok-other.ensures,
      subst (λ y. ComparesWith c.args.one y c.args.order c.turn_by.result) (sym c.in-Ok.is) (c.turn_by.ensures ∙ ap turn_if (c.holds.ensures ∙ (λ j. ordered (order_number c.args.order) (p j) (q j)))),
    )

pub returns-in-Err : goal.returns-in-Err
returns-in-Err c = (c.in_ok-other.field-0, c.in_ok-other.ensures, subst (λ y. ComparesWith c.args.one y c.args.order (Turn.Ended c.in-Err.ending)) (sym c.in-Err.is) refl)
