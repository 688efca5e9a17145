use Rattle.std.proofs.Common.{subst}
use Rattle.lp_syntax.specs.TypeHeld.{IsFolded}
use Rattle.lp_syntax.proofs.types.TypeReader.ends.Goals as goal

pub returns-in-Whole-clause-held : goal.returns-in-Whole-clause-held
returns-in-Whole-clause-held c = λ x at w. subst (IsFolded x c.fold.new.self.nodes.items c.fold.new.self.waiting.items at) c.in-Whole.is (c.in_ok-root.ensures.held x at w)
