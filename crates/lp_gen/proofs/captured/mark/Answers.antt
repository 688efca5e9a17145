use Rattle.std.proofs.Common.{◌-◌, ◌∙◌, ap, arith}
use Rattle.lp_code.specs.States.{member}
use Rattle.lp_gen.proofs.PlanDone.{inserted_old, inserted_new}
use Rattle.lp_gen.proofs.CapturedFrom.{none_found, level_found}
use Rattle.lp_gen.proofs.captured.mark.Goals as goal

pub returns-then-index-base-clause-old : goal.returns-then-index-base-clause-old
returns-then-index-base-clause-old c = λ k e. e

pub returns-then-index-base-clause-new : goal.returns-then-index-base-clause-new
returns-then-index-base-clause-new c = λ lt. absurd (omega (arith, lt, c.if-index-base.true))

pub returns-clause-old : goal.returns-clause-old
returns-clause-old c = λ k e. ap (member k) c.in_ok-_new.ensures.keys ∙ inserted_old k (c.args.base - c.args.index - 1) c.args.levels.now.keys e

pub returns-clause-new : goal.returns-clause-new
returns-clause-new c = λ lt.
    let l = c.args.base - c.args.index - 1 in
    ap (member l) c.in_ok-_new.ensures.keys ∙ inserted_new l c.args.levels.now.keys

pub returns-then-index-base-clause-found : goal.returns-then-index-base-clause-found
returns-then-index-base-clause-found c = λ p x. none_found c.args.base p c.args.levels.now.keys

pub returns-clause-found : goal.returns-clause-found
returns-clause-found c = λ p x. level_found c.args.base p c.args.index c.args.levels.now.keys c.insert.new.self.keys c.in_ok-_new.ensures.keys (omega (arith, c.if-index-base.false)) x

pub returns-clause-distinct : goal.returns-clause-distinct
returns-clause-distinct c = λ d. c.in_ok-_new.ensures.unique
