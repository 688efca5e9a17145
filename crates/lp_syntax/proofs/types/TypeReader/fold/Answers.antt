use Rattle.std.proofs.Common.{◌≡◌, ◌++◌, [], ◌∷◌, sym, ◌∙◌, ap, subst, arith}
use Rattle.std.proofs.lemmas.Grind.{common_steps}
use Rattle.lp_syntax.specs.declared.types.Waiting.TheVariants.{Arrow, Group, Argument}
use Rattle.lp_syntax.specs.TypeMachine.{closed, left}
use Rattle.lp_syntax.specs.TypeViews.{waits_of}
use Rattle.lp_syntax.specs.TypeHeld.{IsWhole}
use Rattle.lp_syntax.proofs.TypeTrees.{fold_arrow, fold_none, fold_group, fold_argument}
use Rattle.lp_syntax.proofs.TypeSteps.{on_wait, on_none}
use Rattle.lp_syntax.proofs.types.TypeReader.fold.Goals as goal

pub returns-in-None-clause-closed : goal.returns-in-None-clause-closed
returns-in-None-clause-closed c =
    let st : c.over.self.waiting.items ≡ [] = grind (arith, common_steps) in
    on_none closed _ st ∙ c.over.invariant.closed

pub returns-in-None-clause-left : goal.returns-in-None-clause-left
returns-in-None-clause-left c =
    let st : c.over.self.waiting.items ≡ [] = grind (arith, common_steps) in
    on_none left _ st ∙ c.over.invariant.left

pub over-preserved : goal.over-preserved
over-preserved c =
    let st : c.over.self.waiting.items ≡ c.pop.new.self.items ++ Arrow c.in-Some-Arrow.left ∷ [] = grind (arith, common_steps) in
    record {
      closed = ap (λ w. closed (waits_of w.items)) c.in_ok-node-in-Some-Arrow.ensures.waiting ∙ on_wait closed _ _ (Arrow c.in-Some-Arrow.left) st ∙ c.over.invariant.closed;
      left = ap (λ w. left (waits_of w.items)) c.in_ok-node-in-Some-Arrow.ensures.waiting ∙ on_wait left _ _ (Arrow c.in-Some-Arrow.left) st ∙ c.over.invariant.left;
      held = λ x at w. let e = c.in_ok-node-in-Some-Arrow.ensures in subst (λ v. IsWhole x c.arrow.new.self.nodes.items v.items at
          c.in_ok-node-in-Some-Arrow.node) (sym e.waiting) (fold_arrow x c.over.self.nodes.items c.arrow.new.self.nodes.items
          c.over.self.waiting.items c.pop.new.self.items c.in-Some-Arrow.left c.over.node c.in_ok-node-in-Some-Arrow.node at st
          (c.over.invariant.held x at w) e.kept e.node e.number e.below);
    }

pub returns-in-Some-Group-clause-closed : goal.returns-in-Some-Group-clause-closed
returns-in-Some-Group-clause-closed c =
    let st : c.over.self.waiting.items ≡ c.pop.new.self.items ++ Group ∷ [] = grind (arith, common_steps) in
    on_wait closed _ _ Group st ∙ c.over.invariant.closed

pub returns-in-Some-Group-clause-left : goal.returns-in-Some-Group-clause-left
returns-in-Some-Group-clause-left c =
    let st : c.over.self.waiting.items ≡ c.pop.new.self.items ++ Group ∷ [] = grind (arith, common_steps) in
    on_wait left _ _ Group st ∙ c.over.invariant.left

pub returns-in-Some-Argument-clause-closed : goal.returns-in-Some-Argument-clause-closed
returns-in-Some-Argument-clause-closed c =
    let st : c.over.self.waiting.items ≡ c.pop.new.self.items ++ Argument c.in-Some-Argument.spot c.in-Some-Argument.arguments ∷ [] = grind (arith, common_steps) in
    on_wait closed _ _ (Argument c.in-Some-Argument.spot c.in-Some-Argument.arguments) st ∙ c.over.invariant.closed

pub returns-in-Some-Argument-clause-left : goal.returns-in-Some-Argument-clause-left
returns-in-Some-Argument-clause-left c =
    let st : c.over.self.waiting.items ≡ c.pop.new.self.items ++ Argument c.in-Some-Argument.spot c.in-Some-Argument.arguments ∷ [] = grind (arith, common_steps) in
    on_wait left _ _ (Argument c.in-Some-Argument.spot c.in-Some-Argument.arguments) st ∙ c.over.invariant.left

pub returns-in-None-clause-held : goal.returns-in-None-clause-held
returns-in-None-clause-held c =
    let st : c.over.self.waiting.items ≡ [] = grind (arith, common_steps) in
    λ x at w. fold_none x c.over.self.nodes.items c.over.self.waiting.items c.over.node at st (c.over.invariant.held x at w)

pub returns-in-Some-Group-clause-held : goal.returns-in-Some-Group-clause-held
returns-in-Some-Group-clause-held c =
    let st : c.over.self.waiting.items ≡ c.pop.new.self.items ++ Group ∷ [] = grind (arith, common_steps) in
    λ x at w. fold_group x c.over.self.nodes.items c.over.self.waiting.items c.pop.new.self.items c.over.node at st (c.over.invariant.held x at w)

pub returns-in-Some-Argument-clause-held : goal.returns-in-Some-Argument-clause-held
returns-in-Some-Argument-clause-held c =
    let st : c.over.self.waiting.items ≡ c.pop.new.self.items ++ Argument c.in-Some-Argument.spot c.in-Some-Argument.arguments ∷ [] = grind (arith, common_steps) in
    λ x at w. fold_argument x c.over.self.nodes.items c.over.self.waiting.items c.pop.new.self.items c.in-Some-Argument.spot c.in-Some-Argument.arguments c.over.node at st (c.over.invariant.held x at w)
