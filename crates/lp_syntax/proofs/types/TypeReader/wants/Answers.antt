use Rattle.std.proofs.Common.{◌+◌, sym, ◌∙◌, subst}
use Rattle.lp_syntax.specs.Tokens.{lexemes, spot_at}
use Rattle.lp_syntax.specs.declared.types.Waiting.TheVariants.{Group}
use Rattle.lp_syntax.specs.TypeHeld.{type_text, IsBuilt}
use Rattle.lp_syntax.proofs.TypeTrees.{begins_word, begins_variable, opens_group, turned_due}
use Rattle.lp_syntax.proofs.types.TypeReader.wants.Goals as goal

pub returns-in-Lower-clause-held : goal.returns-in-Lower-clause-held
returns-in-Lower-clause-held c = λ from h. begins_word (type_text (spot_at c.args.input.now.file c.args.input.now.source.now
    c.args.input.now.tokens.now) (lexemes c.args.input.now.source.now c.args.input.now.tokens.now) from) c.args.self.now.nodes.items
    c.args.self.now.waiting.items c.args.at c.spot.result c.new.result h (sym c.class.ensures ∙ c.in-Lower.is) c.spot.ensures c.new.ensures.items

pub returns-in_ok-node-in-Upper-clause-held : goal.returns-in_ok-node-in-Upper-clause-held
returns-in_ok-node-in-Upper-clause-held c =
    let e = c.in_ok-node-in-Upper.ensures in
    λ from h.
    subst (λ v. IsBuilt (type_text (spot_at c.args.input.now.file c.args.input.now.source.now c.args.input.now.tokens.now) (lexemes c.args.input.now.source.now c.args.input.now.tokens.now) from) c.word.new.self.nodes.items v.items (c.args.at + 1) c.in_ok-node-in-Upper.node) (sym e.waiting)
    (begins_variable (type_text (spot_at c.args.input.now.file c.args.input.now.source.now c.args.input.now.tokens.now)
    (lexemes c.args.input.now.source.now c.args.input.now.tokens.now) from) c.args.self.now.nodes.items c.word.new.self.nodes.items
    c.args.self.now.waiting.items c.args.at c.in_ok-node-in-Upper.node c.spot-in-Upper.result c.new-in-Upper.result h
    (sym c.class.ensures ∙ c.in-Upper.is) c.spot-in-Upper.ensures c.new-in-Upper.ensures.items e.kept e.node e.number e.below)

pub returns-in-Open-clause-held : goal.returns-in-Open-clause-held
returns-in-Open-clause-held c =
    λ from h.
    turned_due (type_text (spot_at c.args.input.now.file c.args.input.now.source.now c.args.input.now.tokens.now)
    (lexemes c.args.input.now.source.now c.args.input.now.tokens.now) from) c.args.self.now.nodes c.opens.new.self.nodes
    c.args.self.now.waiting.items c.opens.new.self.waiting.items Group c.args.at c.opens.result c.opens.ensures.nodes c.opens.ensures.pushed
    c.opens.ensures.goes
    (opens_group (type_text (spot_at c.args.input.now.file c.args.input.now.source.now c.args.input.now.tokens.now)
    (lexemes c.args.input.now.source.now c.args.input.now.tokens.now) from) c.args.self.now.nodes.items c.args.self.now.waiting.items
    c.opens.new.self.waiting.items c.args.at h (sym c.class.ensures ∙ c.in-Open.is))
