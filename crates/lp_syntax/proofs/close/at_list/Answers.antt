use Rattle.std.proofs.Common.{ap, is_ok, ◌∙◌}
use Rattle.std.proofs.ResultArms.{chosen}
use Rattle.lp_syntax.proofs.Arena.{grows_on}
use Rattle.lp_syntax.proofs.Closing.{has_list, pushed_items, list_tree, bar_steps}
use Rattle.lp_syntax.proofs.close.at_list.Goals as goal

pub wrap-requires-clause-done : goal.wrap-requires-clause-done
wrap-requires-clause-done c =
    pushed_items _ _ c.args.done.items _ (c.args.spot, c.args.x) (c.deref.ensures.value ∙ chosen _ _ _ _ c.push.ensures.items (ap is_ok c.in_ok-push-in-ClosesList.was)) c.in_ok-nil-in-ClosesList.ensures.grows.longer c.requires.done c.requires.x

pub returns-in_ok-list-in-ClosesList : goal.returns-in_ok-list-in-ClosesList
returns-in_ok-list-in-ClosesList c =
    let n = c.in_ok-nil-in-ClosesList.ensures in
    let l = c.in_ok-list-in-ClosesList.ensures in
    rw c.in-ClosesList.is (has_list _ _ _ c.args.fun c.in_ok-list-in-ClosesList.list _ (grows_on _ _ _ n.grows l.grows) c.requires.frames c.requires.fun l.within
    (list_tree _ _ c.args.done.items _ c.args.spot c.args.x _ _ _ (c.deref.ensures.value ∙ chosen _ _ _ _ c.push.ensures.items (ap is_ok c.in_ok-push-in-ClosesList.was)) n.grows c.requires.done c.requires.x n.tree l.tree))

pub returns-in_ok-push-in-Bar-2 : goal.returns-in_ok-push-in-Bar-2
returns-in_ok-push-in-Bar-2 c =
    rw c.in-Bar.is (bar_steps _ c.args.frames.now.items _ c.args.spot c.args.fun c.args.done c.push-in-Bar.new.self c.args.x
    (chosen _ _ _ _ c.push-in-Bar.ensures.items (ap is_ok c.in_ok-push-in-Bar.was))
    (chosen _ _ _ _ c.push-in-Bar-2.ensures.items (ap is_ok c.in_ok-push-in-Bar-2.was)) c.requires.frames c.requires.fun c.requires.done
    c.requires.x)
