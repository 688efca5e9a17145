use Rattle.std.proofs.Common.{ap, is_ok, sym, ◌∙◌, subst, IfOk}
use Rattle.std.proofs.ResultArms.{chosen}
use Rattle.lp_syntax.specs.Views.{Steps}
use Rattle.lp_syntax.specs.Nodes.{trees, at}
use Rattle.lp_syntax.proofs.Views.{pushed_below, item_takes, item_separates}
use Rattle.lp_syntax.proofs.attach.at_item.Goals as goal

pub takes-requires-clause-frames : goal.takes-requires-clause-frames
takes-requires-clause-frames c = pushed_below _ c.args.frames.now.items _ _ (chosen _ _ _ _ c.push.ensures.items (ap is_ok c.in_ok-push.was)) c.requires.frames (c.requires.fun, c.requires.done)

pub returns-then-is_item : goal.returns-then-is_item
returns-then-is_item c =
    let e = item_takes (trees c.args.nodes.now.items) c.args.frames.now.items _ c.args.spot c.args.fun c.args.done (at (trees c.args.nodes.now.items) c.args.x) c.args.o (chosen _ _ _ _ c.push.ensures.items (ap is_ok c.in_ok-push.was)) (sym c.is_item.ensures ∙ c.if-is_item.true) in
    subst (λ m. IfOk c.takes.result (λ s. Steps c.args.nodes.now.items c.takes.new.nodes.items c.takes.new.frames.items s m)) e c.takes.ensures

pub returns-then-separates : goal.returns-then-separates
returns-then-separates c =
    item_separates c.args.nodes.now.items c.args.frames.now.items _ c.args.spot c.args.fun c.args.done c.push-then-separates.new.self c.args.x c.args.o
    (chosen _ _ _ _ c.push-then-separates.ensures.items (ap is_ok c.in_ok-push-2.was))
    (chosen _ _ _ _ c.push-then-separates-2.ensures.items (ap is_ok c.in_ok-push-3.was))
    (sym c.is_item.ensures ∙ c.if-is_item.false) (sym c.separates.ensures ∙ c.if-separates.true) c.requires.frames c.requires.fun c.requires.done c.requires.x
