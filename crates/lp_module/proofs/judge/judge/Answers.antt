use Rattle.std.proofs.Common.{◌∙◌, ap, refl, arith, [], ◌∷◌, ◌++◌, false}
use Rattle.std.proofs.lemmas.List.{nil_from_length}
use Rattle.lp_term.specs.Nodes.{tree}
use Rattle.lp_term.proofs.Trees.{extends_same, extends-trans}
use Rattle.lp_module.specs.Form.{whole}
use Rattle.lp_module.specs.inner.Judging.{none_around}
use Rattle.lp_module.proofs.Judging.{judging_begun, judging_ended, judging_deep, judged, task_within, task_shallow}
use Rattle.lp_module.proofs.Ending.{fewer_turns}
use Rattle.lp_module.proofs.Measuring.{measured_later}
use Rattle.lp_module.proofs.judge.judge.Goals as goal

pub judging-init : goal.judging-init
judging-init c = (
  extends_same c.args.bank.now,
  c.requires.measured,
  judging_begun c.args.bank.now c.args.heads.now (whole c.args.goal (tree c.args.bank.now c.args.formula.0))
      (record { binders = c.new-parts.result.binders; tasks = c.push.new.self }) (record
      { goal = c.args.goal; formula = c.args.formula; binder = 0; depth = 1 }) (record { deep = false; wide = false; in_term = false; other = false })
      (c.in_ok-push.ensures.items ∙ ap (λ l. l ++ (record { goal = c.args.goal; formula = c.args.formula; binder = 0; depth = 1 }) ∷ []) c.new-parts.ensures.tasks)
      (record { within = c.requires.within; goal = refl; around = none_around; depth = refl; formula = refl }) (omega arith) refl,
)

pub judging-preserved : goal.judging-preserved
judging-preserved c = (
  extends-trans c.args.bank.now c.judging.bank c.push_parts.new.bank c.judging.invariant.0 c.in_ok-push_parts-in-Some.ensures.kept,
  measured_later c.judging.bank c.push_parts.new.bank c.own.new.measures c.in_ok-push_parts-in-Some.ensures.kept c.in_ok-found-in-Some.ensures.measured,
  judged c.judging.bank c.push_parts.new.bank c.args.heads.now (whole c.args.goal (tree c.args.bank.now c.args.formula.0)) c.judging.parts
      (record { binders = c.judging.parts.binders; tasks = c.pop.new.self }) c.push_parts.new.self c.pop.new.self.items c.in-Some.task
      c.connective_of-connective.result c.judging.verdict c.in_ok-found-in-Some.found c.with-verdict.result
      c.judging.invariant.2 c.in-Some.ensures.items refl refl c.if-verdict.false c.connective_of-connective.ensures.tree c.in_ok-found-in-Some.ensures.own c.with-verdict.ensures c.in_ok-push_parts-in-Some.ensures.kept c.in_ok-push_parts-in-Some.ensures.pushed,
)

pub returns-then-verdict-clause-verdict : goal.returns-then-verdict-clause-verdict
returns-then-verdict-clause-verdict c = judging_deep c.judging.bank c.args.heads.now (whole c.args.goal (tree c.args.bank.now c.args.formula.0)) c.judging.parts c.judging.verdict c.judging.invariant.2 c.if-verdict.true

pub returns-in-None-clause-verdict : goal.returns-in-None-clause-verdict
returns-in-None-clause-verdict c = judging_ended c.judging.bank c.args.heads.now (whole c.args.goal (tree c.args.bank.now c.args.formula.0)) c.judging.parts c.judging.verdict c.judging.invariant.2 (nil_from_length c.judging.parts.tasks.items (omega (arith, c.in-None.ensures.cases.0, c.judging.parts.tasks.ok)))

pub own-requires-clause-depth : goal.own-requires-clause-depth
own-requires-clause-depth c = task_shallow c.judging.bank c.args.heads.now (whole c.args.goal (tree c.args.bank.now c.args.formula.0)) c.judging.parts c.pop.new.self.items c.in-Some.task c.judging.verdict c.judging.invariant.2 c.in-Some.ensures.items c.if-verdict.false

pub own-requires-clause-within : goal.own-requires-clause-within
own-requires-clause-within c = task_within c.judging.bank c.args.heads.now (whole c.args.goal (tree c.args.bank.now c.args.formula.0)) c.judging.parts c.pop.new.self.items c.in-Some.task c.judging.verdict c.judging.invariant.2 c.in-Some.ensures.items

pub push_parts-requires-clause-depth : goal.push_parts-requires-clause-depth
push_parts-requires-clause-depth c = task_shallow c.judging.bank c.args.heads.now (whole c.args.goal (tree c.args.bank.now c.args.formula.0)) c.judging.parts c.pop.new.self.items c.in-Some.task c.judging.verdict c.judging.invariant.2 c.in-Some.ensures.items c.if-verdict.false

pub judging-smaller : goal.judging-smaller
judging-smaller c =
    fewer_turns c.judging.bank c.push_parts.new.bank c.args.heads.now (whole c.args.goal (tree c.args.bank.now c.args.formula.0)) c.judging.parts
    (record { binders = c.judging.parts.binders; tasks = c.pop.new.self }) c.push_parts.new.self c.pop.new.self.items c.in-Some.task
    c.connective_of-connective.result c.judging.verdict c.judging.invariant.2 c.in-Some.ensures.items refl refl c.if-verdict.false c.in_ok-push_parts-in-Some.ensures.pushed
