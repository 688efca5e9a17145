use Rattle.std.proofs.Common.{ap, subst, is_ok}
use Rattle.std.proofs.ResultArms.{chosen}
use Rattle.lp_syntax.specs.TypeHeld.{IsFolded}
use Rattle.lp_syntax.proofs.TypeTrees.{closes_group, closes_argument}
use Rattle.lp_syntax.proofs.types.TypeReader.closes.Goals as goal

pub returns-in-Whole-clause-held : goal.returns-in-Whole-clause-held
returns-in-Whole-clause-held c = λ x at w k. subst (IsFolded x c.fold.new.self.nodes.items c.fold.new.self.waiting.items at) c.in-Whole.is (c.in_ok-root.ensures.held x at w)

pub returns-in-Group-clause-held : goal.returns-in-Group-clause-held
returns-in-Group-clause-held c = λ x at w k. closes_group x c.fold.new.self.nodes.items c.fold.new.self.waiting.items c.in-Group.inner at k (subst (IsFolded x c.fold.new.self.nodes.items c.fold.new.self.waiting.items at) c.in-Group.is (c.in_ok-root.ensures.held x at w))

pub returns-in_ok-push-in-Argument-clause-held : goal.returns-in_ok-push-in-Argument-clause-held
returns-in_ok-push-in-Argument-clause-held c =
    λ x at w k.
    closes_argument x c.fold.new.self.nodes.items c.fold.new.self.waiting.items c.in-Argument.spot c.in-Argument.arguments c.push.new.self c.in-Argument.inner at k
    (subst (IsFolded x c.fold.new.self.nodes.items c.fold.new.self.waiting.items at) c.in-Argument.is (c.in_ok-root.ensures.held x at w))
    (chosen _ _ _ _ c.push.ensures.items (ap is_ok c.in_ok-push-in-Argument.was))
