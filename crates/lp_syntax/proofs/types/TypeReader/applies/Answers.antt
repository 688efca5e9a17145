use Rattle.std.proofs.Common.{◌≡◌, sym, ◌∙◌, ap, subst}
use Rattle.std.specs.Prelude.{IfOk}
use Rattle.lp_syntax.specs.Tokens.{lexemes, spot_at, class_at}
use Rattle.lp_syntax.specs.declared.types.Waiting.TheVariants.{Argument}
use Rattle.lp_syntax.specs.Types.{word, variable}
use Rattle.lp_syntax.specs.TypeMachine.{type_has, type_applies}
use Rattle.lp_syntax.specs.TypeViews.{waits_of, turn_of}
use Rattle.lp_syntax.specs.TypeHeld.{type_text, IsBuilt}
use Rattle.lp_syntax.proofs.TypeTrees.{opens_argument, built_word, turned_due, applies_has}
use Rattle.lp_syntax.proofs.types.TypeReader.applies.Goals as goal

pub returns-in-Lower-clause-held : goal.returns-in-Lower-clause-held
returns-in-Lower-clause-held c = λ from h. c.argument.ensures.held from h (word c.args.at (sym c.class.ensures ∙ c.in-Lower.is))

pub returns-in-Upper-clause-held : goal.returns-in-Upper-clause-held
returns-in-Upper-clause-held c = λ from h. c.argument-in-Upper.ensures.held from h (variable c.args.at (sym c.class.ensures ∙ c.in-Upper.is))

pub returns-in-Open-clause-held : goal.returns-in-Open-clause-held
returns-in-Open-clause-held c =
    λ from h.
    turned_due (type_text (spot_at c.args.input.now.file c.args.input.now.source.now c.args.input.now.tokens.now)
    (lexemes c.args.input.now.source.now c.args.input.now.tokens.now) from) c.args.self.now.nodes c.opens.new.self.nodes
    c.args.self.now.waiting.items c.opens.new.self.waiting.items (Argument c.args.spot c.args.arguments) c.args.at c.opens.result
    c.opens.ensures.nodes c.opens.ensures.pushed c.opens.ensures.goes
    (opens_argument (type_text (spot_at c.args.input.now.file c.args.input.now.source.now c.args.input.now.tokens.now)
    (lexemes c.args.input.now.source.now c.args.input.now.tokens.now) from) c.args.self.now.nodes.items c.args.self.now.waiting.items
    c.opens.new.self.waiting.items c.args.at c.args.spot c.args.arguments h (sym c.class.ensures ∙ c.in-Open.is))

pub returns-in_ok-node-in_default : goal.returns-in_ok-node-in_default
returns-in_ok-node-in_default c =
    let e = c.in_ok-node-in_default.ensures in
    record {
      moves = subst (λ m. IfOk c.has.result (λ r. turn_of c.has.new.self.waiting.items r ≡ m))
          (ap (λ v. type_has (waits_of v.items) (class_at (lexemes c.args.input.now.source.now c.args.input.now.tokens.now) c.args.at)) e.waiting ∙ ap
          (type_has (waits_of c.args.self.now.waiting.items)) (sym c.class.ensures) ∙ applies_has (waits_of c.args.self.now.waiting.items)
          c.class.result c.in_default.not-Lower c.in_default.not-Upper c.in_default.not-Open ∙ ap
          (type_applies (waits_of c.args.self.now.waiting.items)) c.class.ensures)
          c.has.ensures.moves;
      held = λ from h.
          c.has.ensures.held from
          (subst (λ v. IsBuilt (type_text (spot_at c.args.input.now.file c.args.input.now.source.now c.args.input.now.tokens.now) (lexemes c.args.input.now.source.now c.args.input.now.tokens.now) from) c.word.new.self.nodes.items v.items c.args.at c.in_ok-node-in_default.node) (sym e.waiting)
          (built_word (type_text (spot_at c.args.input.now.file c.args.input.now.source.now c.args.input.now.tokens.now)
          (lexemes c.args.input.now.source.now c.args.input.now.tokens.now) from) c.args.self.now.nodes.items c.word.new.self.nodes.items
          c.args.self.now.waiting.items c.args.at c.in_ok-node-in_default.node c.args.spot c.args.arguments h e.kept e.node e.number e.below));
    }
