use Rattle.std.proofs.Common.{◌∙◌, length}
use Rattle.lp_term.specs.Nodes.{tree}
use Rattle.lp_term.proofs.Trees.{extends-trans}
use Rattle.lp_normal.proofs.Bodies.{no_abstraction, body_put}
use Rattle.lp_normal.proofs.raising.body.Goals as goal

pub returns : goal.returns
returns c =
    let b = c.args.bank.now in
    let t = tree b c.args.term.0 in
    record {
      kept = extends-trans b c.raised.new.bank c.put_applied.new.bank c.in_ok-under.ensures.kept (extends-trans c.raised.new.bank c.put_term.new.self c.put_applied.new.bank c.in_ok-bound.ensures.kept c.in_ok-made.ensures.kept);
      within = c.in_ok-made.ensures.within;
      tree =
          body_put t (tree c.put_applied.new.bank c.in_ok-made.made.0) (tree c.put_term.new.self c.in_ok-under.under.0) (tree c.put_term.new.self c.in_ok-bound.bound.0)
          (no_abstraction b (length b.types) c.args.term.0 c.term_node.result t c.term_node.ensures.older c.term_node.ensures.tree c.in_default.not-Abs)
          (c.in_ok-bound.ensures.kept.same_terms c.in_ok-under.under.0 c.in_ok-under.ensures.within ∙ c.in_ok-under.ensures.tree) c.in_ok-bound.ensures.tree c.in_ok-made.ensures.tree;
    }
