use Rattle.std.proofs.Common.{◌≤◌, ◌∙◌, sym, ap, subst, length}
use Rattle.lp_term.specs.Nodes.{type_tree}
use Rattle.lp_model.specs.Flatten.{ends_in_o}
use Rattle.lp_module.proofs.Forming.{ends_more, ends_are}
use Rattle.lp_module.proofs.heads.Heads.of.Goals as goal

pub loop-at-preserved : goal.loop-at-preserved
loop-at-preserved c =
    ends_more c.args.signature.now.bank c.bank.result.now c.args.signature.now.constants.items c.constants-constants.result.now c.loop-at.at c.index-constants-at.result c.ends_in_goal-end.result c.loop-at.ends.items c.push.new.self.items
    c.in_ok-push.ensures.items c.constants-constants.ensures c.loop-at-test.true c.index-constants-at.is c.bank.ensures (c.ends_in_goal-end.ensures ∙ ap (λ e. ends_in_o (type_tree c.bank.result.now e.scheme.0)) (sym c.index-constants-at.is)) c.loop-at.invariant

pub returns : goal.returns
returns c = ends_are c.args.signature.now c.loop-at.at c.loop-at.ends.items (subst (λ l. length l ≤ c.loop-at.at) c.constants-constants.ensures c.loop-at-test.false) c.loop-at.invariant
