use Rattle.std.proofs.Common.{refl}
use Rattle.lp_syntax.specs.Machine.{close}
use Rattle.lp_syntax.proofs.Views.{each_more}
use Rattle.lp_syntax.proofs.Stepping.{after_node}
use Rattle.lp_syntax.proofs.step.closes.Goals as goal

pub close-requires-clause-frames : goal.close-requires-clause-frames
close-requires-clause-frames c = each_more _ _ c.args.frames.now.items c.in_ok-whole.ensures.grows.longer c.requires.frames

pub returns : goal.returns
returns c =
    let l = c.in_ok-whole.ensures in
    after_node (λ fs t. close fs t c.args.c) _ _ _ c.args.frames.now.items _ c.in_ok-whole.whole _ _ l.grows c.requires.frames l.tree refl c.close.result c.close.ensures
