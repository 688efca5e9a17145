use Rattle.std.proofs.Common.{◌+◌, sym, ap, subst, is_ok}
use Rattle.std.proofs.ResultArms.{chosen}
use Rattle.lp_syntax.specs.Tokens.{lexemes, spot_at}
use Rattle.lp_syntax.specs.TypeHeld.{type_text, IsApplied}
use Rattle.lp_syntax.proofs.TypeTrees.{one_word}
use Rattle.lp_syntax.proofs.types.TypeReader.argument.Goals as goal

pub returns-clause-held : goal.returns-clause-held
returns-clause-held c =
    let e = c.in_ok-node.ensures in
    λ from h y.
    subst (λ v. IsApplied (type_text (spot_at c.args.input.now.file c.args.input.now.source.now c.args.input.now.tokens.now) (lexemes c.args.input.now.source.now c.args.input.now.tokens.now) from) c.word.new.self.nodes.items v.items (c.args.at + 1) c.args.spot c.push.new.self) (sym e.waiting)
    (one_word (type_text (spot_at c.args.input.now.file c.args.input.now.source.now c.args.input.now.tokens.now)
    (lexemes c.args.input.now.source.now c.args.input.now.tokens.now) from) c.args.self.now.nodes.items c.word.new.self.nodes.items
    c.args.self.now.waiting.items c.args.at c.in_ok-node.node c.args.spot c.spot.result c.args.arguments c.push.new.self c.new.result h e.kept
    e.node e.number e.below c.spot.ensures c.new.ensures.items y (chosen _ _ _ _ c.push.ensures.items (ap is_ok c.in_ok-push.was)))
