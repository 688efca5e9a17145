use Rattle.std.proofs.Common.{◌+◌, ◌-◌, ◌^◌, min, max, refl, ap, ◌∙◌}
use Rattle.lp_syntax.proofs.Depths.{no_argument_depth, argument_depth}
use Rattle.lp_syntax.proofs.depth.word_depth.Goals as goal

pub loop-argument-init : goal.loop-argument-init
loop-argument-init c = λ spot nodes w t h b s. no_argument_depth spot nodes w _ t refl s

pub loop-argument-preserved : goal.loop-argument-preserved
loop-argument-preserved c = λ spot nodes w t h b s.
    c.max-depth.ensures
    ∙ ap (max c.loop-argument.depth) (c.saturating_add.ensures ∙ ap (λ z. min (z + 1) (2 ^ 64 - 1)) c.depth_at.ensures)
    ∙ argument_depth spot nodes c.args.depths.now w c.loop-argument.depth c.in-Some.argument c.loop-argument.yielded _ t h b refl (λ u a p. c.loop-argument.invariant spot nodes w u h a p) s
