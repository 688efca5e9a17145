use Rattle.lp_term.specs.Nodes.{Extends, tree}
use Rattle.lp_module.specs.Form.{whole}
use Rattle.lp_module.specs.inner.Judging.{AreMeasured, Judging, turns_left}
use Rattle.lp_module.proofs.judge.judge.Given as goal

abbrev pub invariant-judging : goal.invariant-judging
invariant-judging l =
    Extends l.fn.bank l.bank × AreMeasured l.bank l.measures × Judging l.bank l.heads (whole l.goal (tree l.fn.bank l.fn.formula.0)) l.parts l.verdict

abbrev pub decreases-judging : goal.decreases-judging
decreases-judging l = turns_left l.parts.tasks.items
