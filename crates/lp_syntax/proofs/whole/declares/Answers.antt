use Rattle.lp_lemmas.proofs.Results.{passed_up}
use Rattle.lp_syntax.specs.Tokens.{lexemes, spot_at}
use Rattle.lp_syntax.specs.Modules.{IsSentenceRefusal, Declared, declares}
use Rattle.lp_syntax.proofs.ModuleCode.{declaration_refused}
use Rattle.lp_syntax.proofs.whole.declares.Goals as goal

pub returns-clause-sentence : goal.returns-clause-sentence
returns-clause-sentence c =
    let h = c.in_ok-line.ensures.declared in
    λ ops e. record { clause = Declared h.line; is = declares h.line (record { word = c.args.keyword; there = e; body = h.body }); said = h.shown; fits = h.fits }

pub returns-in_err-line-clause-fault : goal.returns-in_err-line-clause-fault
returns-in_err-line-clause-fault c = λ ops e. passed_up c.from_residual.result c.in_err-line.field-0.0
    (IsSentenceRefusal (spot_at c.args.input.now.file c.args.input.now.source.now c.args.input.now.tokens.now) ops
    (lexemes c.args.input.now.source.now c.args.input.now.tokens.now) c.args.at) c.from_residual.ensures.1
    (declaration_refused (spot_at c.args.input.now.file c.args.input.now.source.now c.args.input.now.tokens.now) ops
    (lexemes c.args.input.now.source.now c.args.input.now.tokens.now) c.args.at c.args.keyword _ e (c.in_err-line.ensures.fault e))
