use Rattle.std.proofs.Common.{refl}
use Rattle.lp_syntax.specs.Machine.{begins}
use Rattle.std.specs.Prelude.{Some}
use Rattle.lp_syntax.proofs.Views.{each_more}
use Rattle.lp_syntax.proofs.Stepping.{after_node}
use Rattle.lp_syntax.proofs.step.goes_on.Goals as goal

pub begins-requires-clause-frames : goal.begins-requires-clause-frames
begins-requires-clause-frames c = each_more _ _ c.args.frames.now.items c.in_ok-whole.ensures.grows.longer c.requires.frames

pub returns : goal.returns
returns c =
    let l = c.in_ok-whole.ensures in
    after_node (λ fs t. begins fs (Some t) c.args.c) _ _ _ c.args.frames.now.items _ c.in_ok-whole.whole _ _ l.grows c.requires.frames l.tree refl c.begins.result c.begins.ensures
