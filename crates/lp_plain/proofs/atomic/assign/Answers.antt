use Rattle.std.proofs.Common.{refl, subst, sym}
use Rattle.lp_model.specs.declared.ending.Ending.TheVariants as ending
use Rattle.lp_plain.specs.declared.outcome.Turn.{Turn}
use Rattle.lp_plain.specs.Assigned.{AssignsBy}
use Rattle.lp_plain.proofs.WrittenTurns.{bound_then, only_bound}
use Rattle.lp_plain.proofs.atomic.assign.Goals as goal

pub returns-in-Deep-clause-assigns : goal.returns-in-Deep-clause-assigns
returns-in-Deep-clause-assigns c =
    let n = c.evaluate.new.machine in
    record {
      outcome = c.in_ok-evaluate.field-0;
      between = n;
      evaluated = record { bank = c.in_ok-evaluate.ensures.bank; value = c.in_ok-evaluate.ensures.value };
      by = subst (λ o. AssignsBy o n n c.args.left c.args.level (Turn.Ended ending.Deep)) (sym c.in-Deep.is) refl;
    }

pub returns-in-Faults-clause-assigns : goal.returns-in-Faults-clause-assigns
returns-in-Faults-clause-assigns c =
    let n = c.evaluate.new.machine in
    record {
      outcome = c.in_ok-evaluate.field-0;
      between = n;
      evaluated = record { bank = c.in_ok-evaluate.ensures.bank; value = c.in_ok-evaluate.ensures.value };
      by = subst (λ o. AssignsBy o n n c.args.left c.args.level (Turn.Ended (ending.Arithmetic c.in-Faults.fault))) (sym c.in-Faults.is) refl;
    }

pub returns-in_ok-turn-in-Is-clause-assigns : goal.returns-in_ok-turn-in-Is-clause-assigns
returns-in_ok-turn-in-Is-clause-assigns c =
    let n = c.evaluate.new.machine in
    record {
      outcome = c.in_ok-evaluate.field-0;
      between = n;
      evaluated = record { bank = c.in_ok-evaluate.ensures.bank; value = c.in_ok-evaluate.ensures.value };
      by = subst (λ o. AssignsBy o n c.assign_value.new.machine c.args.left c.args.level c.in_ok-turn-in-Is.turn) (sym c.in-Is.is) c.in_ok-turn-in-Is.ensures;
    }

pub returns-in-Deep-clause-bound : goal.returns-in-Deep-clause-bound
returns-in-Deep-clause-bound c = only_bound c.args.machine.now c.evaluate.new.machine c.in_ok-evaluate.ensures.bank

pub returns-in-Faults-clause-bound : goal.returns-in-Faults-clause-bound
returns-in-Faults-clause-bound c = only_bound c.args.machine.now c.evaluate.new.machine c.in_ok-evaluate.ensures.bank

pub returns-in_ok-turn-in-Is-clause-bound : goal.returns-in_ok-turn-in-Is-clause-bound
returns-in_ok-turn-in-Is-clause-bound c =
    let m = c.args.machine.now in
    let k = c.evaluate.new.machine in
    let n = c.assign_value.new.machine in
    let e = c.in_ok-turn-in-Is.ensures in
    bound_then m k n (only_bound m k c.in_ok-evaluate.ensures.bank) (bound_then k e.between n (only_bound k e.between e.bank) e.bound)
