use Rattle.std.proofs.Common.{subst}
use Rattle.lp_syntax.specs.Tokens.{lexemes, spot_at}
use Rattle.lp_syntax.specs.References.{IsReferenceAt}
use Rattle.lp_syntax.proofs.Referring.{none_more_refers, added}
use Rattle.lp_syntax.proofs.outline.take.Goals as goal

pub returns-in-None : goal.returns-in-None
returns-in-None c = λ j n a. none_more_refers (spot_at c.args.input.now.file c.args.input.now.source.now c.args.input.now.tokens.now)
    (lexemes c.args.input.now.source.now c.args.input.now.tokens.now) c.args.at j _ a
    (subst (IsReferenceAt (spot_at c.args.input.now.file c.args.input.now.source.now c.args.input.now.tokens.now)
    (lexemes c.args.input.now.source.now c.args.input.now.tokens.now) c.args.at) c.in-None.is c.in_ok-reference.ensures) n

pub returns-in-Some : goal.returns-in-Some
returns-in-Some c = added (spot_at c.args.input.now.file c.args.input.now.source.now c.args.input.now.tokens.now)
    (lexemes c.args.input.now.source.now c.args.input.now.tokens.now) c.args.at c.in-Some.line c.args.found.now c.add.new.self c.add.result
    (subst (IsReferenceAt (spot_at c.args.input.now.file c.args.input.now.source.now c.args.input.now.tokens.now)
    (lexemes c.args.input.now.source.now c.args.input.now.tokens.now) c.args.at) c.in-Some.is c.in_ok-reference.ensures) c.add.ensures.accumulate
    c.add.ensures.accum_sig c.add.ensures.fixities
