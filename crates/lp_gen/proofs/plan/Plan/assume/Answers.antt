use Rattle.std.proofs.Common.{◌≡◌, length, refl, subst, arith}
use Rattle.lp_gen.specs.declared.plan.Assumption.{Assumption}
use Rattle.lp_gen.specs.inner.Planning.{AreDue}
use Rattle.lp_gen.proofs.PlanWalked.{captured_more}
use Rattle.lp_gen.proofs.plan.Plan.assume.Goals as goal

pub returns-clause-assumed : goal.returns-clause-assumed
returns-clause-assumed c =
    let d = c.in_ok-push_due.ensures in
    let number : c.len-number.result ≡ length c.args.self.now.assumptions.items = omega (arith, c.len-number.ensures, c.args.self.now.assumptions.ok) in
    let x : Assumption = record { clauses = c.args.clauses; base = c.args.base; captured = c.in_ok-captured.captured; first = c.len.result; count = length c.args.clauses.now } in (
      x,
      c.in_ok-push.ensures.items,
      number,
      record {
        clauses_are = refl;
        base = refl;
        first = omega (arith, c.len.ensures, c.args.self.now.due.ok);
        count = refl;
        more = d.0;
        due_are = d.1;
        members = subst (λ k. AreDue k c.args.base c.args.clauses.now d.0) number d.2;
      },
    )

pub returns-clause-captured : goal.returns-clause-captured
returns-clause-captured c =
    let x : Assumption = record { clauses = c.args.clauses; base = c.args.base; captured = c.in_ok-captured.captured; first = c.len.result; count = length c.args.clauses.now } in
    captured_more c.args.bank.now c.args.self.now.assumptions.items c.push.new.self.items x c.in_ok-push.ensures.items (c.in_ok-captured.ensures.all, c.in_ok-captured.ensures.found, c.in_ok-captured.ensures.distinct)
