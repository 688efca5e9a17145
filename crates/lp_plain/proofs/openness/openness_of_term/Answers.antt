use Rattle.std.proofs.Common.{sym, subst, inr}
use Rattle.std.specs.Prelude.{◌^◌}
use Rattle.lp_term.specs.Nodes.{tree}
use Rattle.lp_term.specs.Spine.{LooseBelow}
use Rattle.lp_plain.specs.Standings.{IsForm, IsJudged}
use Rattle.lp_plain.proofs.OpenGoals.{term_judged}
use Rattle.lp_plain.proofs.openness.openness_of_term.Goals as goal

pub returns-then-not-branch-clause-judged : goal.returns-then-not-branch-clause-judged
returns-then-not-branch-clause-judged c = λ k r h. inr (λ l. c.in_ok-has_small_indices.ensures.large c.if-not-branch.true (subst (LooseBelow (2 ^ 32) 0) (sym (c.in_ok-full.ensures.filled k r h)) l))

pub returns-in_ok-found-in-Ok-clause-judged : goal.returns-in_ok-found-in-Ok-clause-judged
returns-in_ok-found-in-Ok-clause-judged c = λ k r h.
    term_judged c.in_ok-found-in-Ok.found _ _ (tree c.beta_normal.new.bank c.in-Ok.normal.0) c.judged.ensures (subst (λ t. IsForm t (tree c.beta_normal.new.bank c.in-Ok.normal.0)) (c.in_ok-full.ensures.filled k r h) (c.in-Ok.ensures.form, c.in-Ok.ensures.nodes)) c.in_ok-found-in-Ok.ensures

pub returns-in_ok-openness-in-Err-clause-judged : goal.returns-in_ok-openness-in-Err-clause-judged
returns-in_ok-openness-in-Err-clause-judged c = λ k r h. subst (IsJudged c.in_ok-openness-in-Err.openness) (c.in_ok-full.ensures.filled k r h) (c.in_ok-openness-in-Err.ensures (tree c.filled.new.bank c.in_ok-full.full.0) c.in-Err.ensures.refused)
