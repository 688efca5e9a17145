use Rattle.std.proofs.Common.{ap, ◌∙◌}
use Rattle.lp_syntax.specs.Machine.{wrap}
use Rattle.lp_syntax.specs.Nodes.{trees, at}
use Rattle.lp_syntax.specs.Views.{done_of}
use Rattle.lp_syntax.proofs.Closing.{has_list}
use Rattle.lp_syntax.proofs.close.at_tail.Goals as goal

pub returns-in-ClosesList : goal.returns-in-ClosesList
returns-in-ClosesList c =
    let l = c.in_ok-list-in-ClosesList.ensures in
    rw c.in-ClosesList.is (has_list _ _ _ c.args.fun c.in_ok-list-in-ClosesList.list _ l.grows c.requires.frames c.requires.fun l.within
    (l.tree ∙ ap (λ d. wrap (done_of (trees c.args.nodes.now.items) d) (at (trees c.args.nodes.now.items) c.args.x)) c.deref.ensures.value))
