use Rattle.std.proofs.Common.{ap, ◌∙◌, arith, replicate, ◌++◌, [], ◌∷◌, false}
use Rattle.std.proofs.lemmas.List.{replicate-append-replicate}
use Rattle.lp_module.proofs.circles.no_marks.Goals as goal

pub loop-at-preserved : goal.loop-at-preserved
loop-at-preserved c = c.in_ok-push.ensures.items ∙ ap (λ l. l ++ false ∷ []) c.loop-at.invariant ∙ replicate-append-replicate c.loop-at.at 1 false

pub returns : goal.returns
returns c = c.loop-at.invariant ∙ ap (λ n. replicate n false) (omega (arith, c.loop-at-test.false, c.loop-at.auto.at-end))
