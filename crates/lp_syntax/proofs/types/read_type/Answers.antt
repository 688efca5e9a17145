use Rattle.std.proofs.Common.{◌≡◌, ◌≤◌, length, [], refl, sym, ap, ◌∙◌, subst, arith}
use Rattle.std.proofs.lemmas.Grind.{common_steps}
use Rattle.lp_syntax.specs.TypeHeld.{at_none, type_text, IsTurned}
use Rattle.lp_syntax.specs.Tokens.{spot_at, lexemes, class_at, open_behind}
use Rattle.lp_syntax.specs.TypeMachine.{Runs, stays, Wants, Goes, ts, type_step}
use Rattle.lp_syntax.specs.TypeViews.{state_of, turn_of}
use Rattle.lp_syntax.proofs.TypeSteps.{no_waits, one_more, ends_there}
use Rattle.lp_syntax.proofs.OpenBrackets.{brackets_none, brackets_more}
use Rattle.lp_syntax.proofs.Tokens.{class_past}
use Rattle.lp_syntax.proofs.types.read_type.Goals as goal

pub over-init : goal.over-init
over-init c =
    let ls = lexemes c.args.input.now.source.now c.args.input.now.tokens.now in
    record {
      within = c.requires.within;
      from = omega arith;
      runs = subst (λ ws. Runs ls (ts [] Wants) c.args.from (ts ws Wants) c.args.from) (sym c.new-reader.ensures) (stays (ts [] Wants) c.args.from);
      open_here = c.new-open.ensures.items ∙ brackets_none ls c.args.from;
      held = at_none c.new-reader.result.waiting.items c.args.from (no_waits c.new-reader.result.waiting.items c.new-reader.ensures) refl;
    }

pub over-preserved : goal.over-preserved
over-preserved c =
    let ls = lexemes c.args.input.now.source.now c.args.input.now.tokens.now in
    let e : Goes (state_of c.turn.new.self.waiting.items c.in-Goes.next) ≡ type_step (state_of c.over.reader.waiting.items c.over.due) (class_at ls c.over.at) = sym (ap (turn_of c.turn.new.self.waiting.items) c.in-Goes.is) ∙ c.in_ok-next.ensures.moves in
    let v = c.over.invariant in
    record {
      within = grind (arith, common_steps);
      from = let f = v.from in omega (arith, f);
      runs = one_more ls c.args.from c.over.at _ _ v.runs e;
      open_here = c.in_ok-follow-in-Goes.ensures ∙ ap (λ k. open_behind c.over.at k c.over.open.items) c.class.ensures ∙ brackets_more ls c.args.from c.over.at c.over.open.items v.from v.open_here;
      held = subst (IsTurned (type_text (spot_at c.args.input.now.file c.args.input.now.source.now c.args.input.now.tokens.now) ls c.args.from) c.turn.new.self.nodes.items c.turn.new.self.waiting.items c.over.at) c.in-Goes.is (c.in_ok-next.ensures.held c.args.from v.held);
    }

pub returns-in-Goes-2-clause-end : goal.returns-in-Goes-2-clause-end
returns-in-Goes-2-clause-end c =
    let ls = lexemes c.args.input.now.source.now c.args.input.now.tokens.now in
    let l : length c.args.input.now.tokens.now ≤ c.over.at = grind (arith, common_steps) in
    absurd (ends_there (state_of c.over.reader.waiting.items c.over.due) _ (sym (ap (turn_of c.turn-2.new.self.waiting.items) c.in-Goes-2.is) ∙
    c.in_ok-root.ensures.moves ∙ ap (type_step (state_of c.over.reader.waiting.items c.over.due))
    (class_past c.args.input.now.source.now c.args.input.now.tokens.now c.over.at l)))

pub returns-in-Ends-clause-tree : goal.returns-in-Ends-clause-tree
returns-in-Ends-clause-tree c =
    let x = type_text (spot_at c.args.input.now.file c.args.input.now.source.now c.args.input.now.tokens.now) (lexemes c.args.input.now.source.now c.args.input.now.tokens.now) c.args.from in
    c.read.ensures.root x (subst (IsTurned x c.turn.new.self.nodes.items c.turn.new.self.waiting.items c.over.at) c.in-Ends.is (c.in_ok-next.ensures.held c.args.from c.over.invariant.held))

pub returns-in-Ends-2-clause-tree : goal.returns-in-Ends-2-clause-tree
returns-in-Ends-2-clause-tree c =
    let x = type_text (spot_at c.args.input.now.file c.args.input.now.source.now c.args.input.now.tokens.now) (lexemes c.args.input.now.source.now c.args.input.now.tokens.now) c.args.from in
    c.read-in-Ends-2.ensures.root x (subst (IsTurned x c.turn-2.new.self.nodes.items c.turn-2.new.self.waiting.items c.over.at) c.in-Ends-2.is (c.in_ok-root.ensures.held c.args.from c.over.invariant.held))
