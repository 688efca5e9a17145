use Rattle.std.proofs.Common.{◌≡◌, sym, ◌∙◌, ap, subst}
use Rattle.lp_syntax.specs.Tokens.{lexemes, spot_at}
use Rattle.std.specs.Prelude.{IfOk}
use Rattle.lp_syntax.specs.declared.types.Waiting.TheVariants.{Arrow}
use Rattle.lp_syntax.specs.TypeMachine.{type_has}
use Rattle.lp_syntax.specs.TypeViews.{waits_of, turn_of}
use Rattle.lp_syntax.specs.TypeHeld.{type_text}
use Rattle.lp_syntax.proofs.TypeTrees.{takes_arrow, whole_of, turned_due, has_left}
use Rattle.lp_syntax.proofs.types.TypeReader.has.Goals as goal

pub returns-in-Arrow-clause-held : goal.returns-in-Arrow-clause-held
returns-in-Arrow-clause-held c =
    λ from h.
    turned_due (type_text (spot_at c.args.input.now.file c.args.input.now.source.now c.args.input.now.tokens.now)
    (lexemes c.args.input.now.source.now c.args.input.now.tokens.now) from) c.args.self.now.nodes c.arrows.new.self.nodes
    c.args.self.now.waiting.items c.arrows.new.self.waiting.items (Arrow c.args.node) c.args.at c.arrows.result c.arrows.ensures.nodes
    c.arrows.ensures.pushed c.arrows.ensures.goes
    (takes_arrow (type_text (spot_at c.args.input.now.file c.args.input.now.source.now c.args.input.now.tokens.now)
    (lexemes c.args.input.now.source.now c.args.input.now.tokens.now) from) c.args.self.now.nodes.items c.args.self.now.waiting.items
    c.arrows.new.self.waiting.items c.args.at c.args.node h (sym c.class.ensures ∙ c.in-Arrow.is))

pub returns-in-Close-clause-held : goal.returns-in-Close-clause-held
returns-in-Close-clause-held c = λ from h. c.closes.ensures.held (type_text (spot_at c.args.input.now.file c.args.input.now.source.now
    c.args.input.now.tokens.now) (lexemes c.args.input.now.source.now c.args.input.now.tokens.now) from) c.args.at
    (whole_of (type_text (spot_at c.args.input.now.file c.args.input.now.source.now c.args.input.now.tokens.now)
    (lexemes c.args.input.now.source.now c.args.input.now.tokens.now) from) c.args.self.now.nodes.items c.args.self.now.waiting.items c.args.at
    c.args.node h) (sym c.class.ensures ∙ c.in-Close.is)

pub returns-in_default : goal.returns-in_default
returns-in_default c = record {
  moves = subst (λ m. IfOk c.ends.result (λ r. turn_of c.ends.new.self.waiting.items r ≡ m)) (has_left (waits_of c.args.self.now.waiting.items) c.class.result c.in_default.not-Arrow c.in_default.not-Close ∙ ap (type_has (waits_of c.args.self.now.waiting.items)) c.class.ensures) c.ends.ensures.moves;
  held = λ from h. c.ends.ensures.held (type_text (spot_at c.args.input.now.file c.args.input.now.source.now c.args.input.now.tokens.now)
      (lexemes c.args.input.now.source.now c.args.input.now.tokens.now) from) c.args.at
      (whole_of (type_text (spot_at c.args.input.now.file c.args.input.now.source.now c.args.input.now.tokens.now)
      (lexemes c.args.input.now.source.now c.args.input.now.tokens.now) from) c.args.self.now.nodes.items c.args.self.now.waiting.items c.args.at
      c.args.node h);
}
