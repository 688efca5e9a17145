use Rattle.std.proofs.Common.{sym, ◌∙◌}
use Rattle.lp_syntax.proofs.Views.{each_more}
use Rattle.lp_syntax.proofs.Stepping.{operates_after}
use Rattle.lp_syntax.proofs.step.operates.Goals as goal

pub attach-requires-clause-frames : goal.attach-requires-clause-frames
attach-requires-clause-frames c = each_more _ _ c.args.frames.now.items c.in_ok-whole.ensures.grows.longer c.requires.frames

pub returns : goal.returns
returns c =
    let l = c.in_ok-whole.ensures in
    operates_after _ _ _ c.args.frames.now.items _ c.in_ok-whole.whole _ c.args.o l.grows c.requires.frames l.tree (sym c.is_prefix.ensures ∙ c.if-is_prefix.false) c.attach.result c.attach.ensures
