use Rattle.std.proofs.Common.{sym, ◌∙◌}
use Rattle.lp_syntax.specs.Tokens.{lexemes, spot_at}
use Rattle.lp_syntax.proofs.Referring.{no_keyword, other_keyword, refused_reference, given_reference}
use Rattle.lp_syntax.proofs.outline.reference.Goals as goal

pub returns-in_default : goal.returns-in_default
returns-in_default c = no_keyword (lexemes c.args.input.now.source.now c.args.input.now.tokens.now) c.args.at (λ k y. c.in_default.not-Keyword k (c.class.ensures ∙ y))

pub returns-then-not-refers : goal.returns-then-not-refers
returns-then-not-refers c = other_keyword (lexemes c.args.input.now.source.now c.args.input.now.tokens.now) c.args.at c.in-Keyword.keyword (sym c.class.ensures ∙ c.in-Keyword.is) (sym c.refers.ensures ∙ c.if-not-refers.true)

pub returns-in-Ok : goal.returns-in-Ok
returns-in-Ok c = given_reference (spot_at c.args.input.now.file c.args.input.now.source.now c.args.input.now.tokens.now)
    (lexemes c.args.input.now.source.now c.args.input.now.tokens.now) c.args.at c.in-Ok.field-0-1 c.in-Keyword.keyword c.in-Ok.line
    (sym c.class.ensures ∙ c.in-Keyword.is) (sym c.if-not-refers.ensures) c.in-Ok.ensures.declared

pub returns-in_ok-unless_memory-in-Err : goal.returns-in_ok-unless_memory-in-Err
returns-in_ok-unless_memory-in-Err c =
    let e = sym c.class.ensures ∙ c.in-Keyword.is in
    refused_reference (spot_at c.args.input.now.file c.args.input.now.source.now c.args.input.now.tokens.now)
    (lexemes c.args.input.now.source.now c.args.input.now.tokens.now) c.args.at c.in-Keyword.keyword c.in-Err.fault e
    (sym c.if-not-refers.ensures) c.in_ok-unless_memory-in-Err.ensures (c.in-Err.ensures.fault e)
