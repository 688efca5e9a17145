use Rattle.std.proofs.Common.{◌≡◌, arith, w64, to_z, of_z, refl, subst, sym, Ok}
use Rattle.std.proofs.lemmas.Int.{to_z-of_z}
use Rattle.lp_plain.specs.declared.outcome.Turn.{Turn}
use Rattle.lp_plain.specs.Assigned.{ComparesBy}
use Rattle.lp_plain.proofs.GoingBank.{bank_then}
use Rattle.lp_plain.proofs.atomic.compare.Goals as goal

pub returns-in_ok-turn-in-Ok-clause-compares : goal.returns-in_ok-turn-in-Ok-clause-compares
returns-in_ok-turn-in-Ok-clause-compares c =
    let k = c.number.new.machine in
    let n = c.compare_with.new.machine in
    let e : to_z w64 (of_z w64 c.in-Ok.one) ≡ c.in-Ok.one = grind (arith, to_z-of_z) in
    record {
      first = c.in_ok-one.field-0;
      between = k;
      number = c.in_ok-one.ensures;
      by =
          subst (λ x. ComparesBy x k n c.args.order c.args.right c.in_ok-turn-in-Ok.turn) (sym c.in-Ok.is)
          (subst (λ x. ComparesBy (Ok x) k n c.args.order c.args.right c.in_ok-turn-in-Ok.turn) e c.in_ok-turn-in-Ok.ensures);
    }

pub returns-in-Err-clause-compares : goal.returns-in-Err-clause-compares
returns-in-Err-clause-compares c =
    let k = c.number.new.machine in
    record {
      first = c.in_ok-one.field-0;
      between = k;
      number = c.in_ok-one.ensures;
      by = subst (λ x. ComparesBy x k k c.args.order c.args.right (Turn.Ended c.in-Err.ending)) (sym c.in-Err.is) refl;
    }

pub returns-in_ok-turn-in-Ok-clause-only : goal.returns-in_ok-turn-in-Ok-clause-only
returns-in_ok-turn-in-Ok-clause-only c = bank_then c.args.machine.now c.number.new.machine c.compare_with.new.machine c.in_ok-one.ensures.evaluated.bank c.in_ok-turn-in-Ok.ensures.1.evaluated.bank

pub returns-in-Err-clause-only : goal.returns-in-Err-clause-only
returns-in-Err-clause-only c = c.in_ok-one.ensures.evaluated.bank
