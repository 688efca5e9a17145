use Rattle.std.proofs.Common.{ap, is_ok, sym, ◌∙◌}
use Rattle.std.proofs.ResultArms.{chosen}
use Rattle.lp_syntax.proofs.Views.{took_form, took_waiting}
use Rattle.lp_syntax.proofs.attach.takes.Goals as goal

pub returns-then-is_postfix : goal.returns-then-is_postfix
returns-then-is_postfix c =
    took_form c.args.nodes.now.items _ _ c.args.frames.now.items c.args.x _ _ c.args.o (sym c.is_postfix.ensures ∙ c.if-is_postfix.true)
    c.requires.frames c.requires.x c.in_ok-leaf.ensures.grows c.in_ok-form.ensures.grows c.in_ok-leaf.ensures.tree c.in_ok-form.ensures.within
    c.in_ok-form.ensures.tree

pub returns : goal.returns
returns c = took_waiting c.args.nodes.now.items c.args.frames.now.items _ c.args.x c.args.o (chosen _ _ _ _ c.push.ensures.items (ap is_ok c.in_ok-push.was)) (sym c.is_postfix.ensures ∙ c.if-is_postfix.false) c.requires.frames c.requires.x
