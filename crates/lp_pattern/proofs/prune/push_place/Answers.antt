use Rattle.std.proofs.Common.{sym, ◌∙◌}
use Rattle.lp_calculus.specs.Term.{index}
use Rattle.lp_pattern.proofs.Pushing.{one_more, none_more}
use Rattle.lp_pattern.proofs.prune.push_place.Goals as goal

pub returns-clause-pushed : goal.returns-clause-pushed
returns-clause-pushed c =
    one_more c.args.bank.now c.put_index.new.bank c.args.arguments.now.items c.push.new.self.items c.in_ok-id.id _ (index c.args.place) (sym c.allows.ensures ∙ c.if-not-allows.false) c.in_ok-id.ensures.kept c.in_ok-id.ensures.within
    c.in_ok-id.ensures.tree c.in_ok-push.ensures.items

pub returns-then-not-allows-clause-pushed : goal.returns-then-not-allows-clause-pushed
returns-then-not-allows-clause-pushed c = none_more c.args.bank.now c.args.arguments.now.items _ (index c.args.place) (sym c.allows.ensures ∙ c.if-not-allows.true)
