use Rattle.std.proofs.Common.{◌∙◌, ◌+◌, ap, subst}
use Rattle.lp_lemmas.proofs.Results.{passed_up}
use Rattle.lp_model.specs.Flat.{clauses, no_clauses}
use Rattle.lp_model.specs.Flattened.{clause_of}
use Rattle.lp_gen.specs.Limits.{clauses_counts}
use Rattle.lp_gen.specs.inner.Limiting.{counting_of, IsOver}
use Rattle.lp_gen.proofs.LimitsLeft.{clause_met, clause_over}
use Rattle.lp_gen.proofs.limits.visit_clause.Goals as goal

pub returns-clause-met : goal.returns-clause-met
returns-clause-met c =
    clause_met c.args.bank.now c.args.tally.now.look c.args.number c.args.tally.now.room c.take.new.self.room c.args.clause.now c.args.work.now.items c.push.new.self.items c.push-2.new.self.items c.as_slice.result
    c.as_slice.ensures.value (c.in_ok-take.ensures.room ∙ ap (λ n. c.take.new.self.room + n) c.of_clause-clauses.ensures) c.in_ok-push.ensures.items c.in_ok-push-2.ensures.items

pub returns-in_err-take-clause-cause : goal.returns-in_err-take-clause-cause
returns-in_err-take-clause-cause c =
    let k = c.args.tally.now.look in
    let r = c.args.tally.now.room in
    let e = c.in_err-take.field-0.0 in
    passed_up c.from_residual.result e (IsOver k r (clauses_counts (counting_of k) c.args.number (clauses (clause_of c.args.bank.now c.args.clause.now) no_clauses))) c.from_residual.ensures.1
    (clause_over c.args.bank.now k c.args.number r c.args.clause.now e (subst (λ n. IsOver k r n e) c.of_clause-clauses.ensures c.in_err-take.ensures.cause))
