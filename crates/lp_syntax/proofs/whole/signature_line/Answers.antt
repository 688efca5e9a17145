use Rattle.std.proofs.Common.{sym, ◌∙◌, arith}
use Rattle.lp_syntax.specs.Tokens.{lexemes, spot_at}
use Rattle.lp_syntax.proofs.Tokens.{length_lexemes}
use Rattle.lp_syntax.proofs.SignatureCode.{line_told, line_refused, local_refused, other_refused}
use Rattle.lp_syntax.proofs.whole.signature_line.Goals as goal

pub returns-else-is_local-clause-line : goal.returns-else-is_local-clause-line
returns-else-is_local-clause-line c = line_told (spot_at c.args.input.now.file c.args.input.now.source.now c.args.input.now.tokens.now)
    (lexemes c.args.input.now.source.now c.args.input.now.tokens.now) c.args.at c.in-Keyword.keyword c.declaration.result
    (sym c.class.ensures ∙ c.in-Keyword.is) (sym c.is_local.ensures ∙ c.if-is_local.false) c.declaration.ensures.declared

pub returns-else-is_local-clause-fault : goal.returns-else-is_local-clause-fault
returns-else-is_local-clause-fault c = line_refused (spot_at c.args.input.now.file c.args.input.now.source.now c.args.input.now.tokens.now)
    (lexemes c.args.input.now.source.now c.args.input.now.tokens.now) c.args.at c.in-Keyword.keyword c.declaration.result
    (sym c.class.ensures ∙ c.in-Keyword.is) (sym c.is_local.ensures ∙ c.if-is_local.false)
    (c.declaration.ensures.fault (sym c.class.ensures ∙ c.in-Keyword.is))

pub returns-then-is_local-clause-fault : goal.returns-then-is_local-clause-fault
returns-then-is_local-clause-fault c = local_refused (spot_at c.args.input.now.file c.args.input.now.source.now c.args.input.now.tokens.now)
    (lexemes c.args.input.now.source.now c.args.input.now.tokens.now) c.args.at c.in-Keyword.keyword _ (sym c.class.ensures ∙ c.in-Keyword.is)
    (sym c.is_local.ensures ∙ c.if-is_local.true) c.refusal.ensures

pub returns-in_default-clause-fault : goal.returns-in_default-clause-fault
returns-in_default-clause-fault c =
    let w = c.requires in
    let l = length_lexemes c.args.input.now.source.now c.args.input.now.tokens.now in
    other_refused (spot_at c.args.input.now.file c.args.input.now.source.now c.args.input.now.tokens.now) (lexemes c.args.input.now.source.now c.args.input.now.tokens.now) c.args.at _ (λ k y. c.in_default.not-Keyword k (c.class.ensures ∙ y)) (omega (arith, w, l)) c.refusal-in_default.ensures
