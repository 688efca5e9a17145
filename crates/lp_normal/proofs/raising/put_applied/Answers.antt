use Rattle.std.proofs.Common.{◌∙◌, ap, ◌++◌, ◌∷◌, []}
use Rattle.lp_term.specs.Nodes.{tree}
use Rattle.lp_normal.proofs.Bodies.{put_last}
use Rattle.lp_normal.proofs.raising.put_applied.Goals as goal

pub returns-in_ok-made-in-App-clause-tree : goal.returns-in_ok-made-in-App-clause-tree
returns-in_ok-made-in-App-clause-tree c =
    let b = c.args.bank.now in
    c.in_ok-made-in-App.ensures.tree ∙
    put_last b (tree b c.in-App.head.0) c.args.argument c.in-App.before.now c.as_slice.result.now (tree b c.args.term.0)
    (c.as_slice.ensures.value ∙ c.in_ok-push-in-App.ensures.items ∙ ap (λ l. l ++ c.args.argument ∷ []) c.in_ok-args-in-App.ensures.items) c.in-App.ensures.tree
