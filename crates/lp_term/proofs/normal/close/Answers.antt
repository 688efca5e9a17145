use Rattle.std.proofs.Common.{◌∙◌, ap}
use Rattle.lp_calculus.specs.Term.{apply}
use Rattle.lp_calculus.specs.Convert.{leftmost_step}
use Rattle.lp_term.specs.Nodes.{tree}
use Rattle.lp_term.specs.Spine.{abstractions}
use Rattle.lp_term.specs.Frame.{in_order}
use Rattle.lp_term.proofs.Moves.{closed_done, closed_normal}
use Rattle.lp_term.proofs.normal.close.Goals as goal

pub returns-clause-tree : goal.returns-clause-tree
returns-clause-tree c =
    c.in_ok-id.ensures.tree ∙ ap (abstractions c.args.frame.depth) c.in_ok-top.ensures.tree ∙
    ap (λ l. abstractions c.args.frame.depth (apply (tree c.args.bank.now c.args.frame.head.0) (in_order c.args.bank.now l))) c.as_slice.ensures.value ∙
    closed_done c.args.bank.now c.args.frame c.requires.left

pub returns-clause-normal : goal.returns-clause-normal
returns-clause-normal c =
    ap leftmost_step (c.in_ok-id.ensures.tree ∙ ap (abstractions c.args.frame.depth) c.in_ok-top.ensures.tree ∙
    ap (λ l. abstractions c.args.frame.depth (apply (tree c.args.bank.now c.args.frame.head.0) (in_order c.args.bank.now l))) c.as_slice.ensures.value ∙
    closed_done c.args.bank.now c.args.frame c.requires.left) ∙
    closed_normal c.args.bank.now c.args.frame c.requires.frame c.requires.left
