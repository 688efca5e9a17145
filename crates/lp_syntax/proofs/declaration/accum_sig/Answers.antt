use Rattle.std.proofs.Common.{inr, refl, arith}
use Rattle.lp_lemmas.proofs.Results.{passed_up}
use Rattle.lp_syntax.specs.declared.class.Keyword.TheVariants as keyword
use Rattle.lp_syntax.specs.Tokens.{lexemes, spot_at}
use Rattle.lp_syntax.specs.Terms.{MemoryOr}
use Rattle.lp_syntax.specs.LineMachine.{AtName, StopsIn}
use Rattle.lp_syntax.proofs.Tokens.{length_lexemes}
use Rattle.lp_syntax.specs.Declarations.{accum_sig, AccumSigLine}
use Rattle.lp_syntax.proofs.LineParts.{list_dot_refused}
use Rattle.lp_syntax.proofs.declaration.accum_sig.Goals as goal

pub returns-clause-declared : goal.returns-clause-declared
returns-clause-declared c = record {
  line = AccumSigLine c.in_ok-words.ensures.listed.numbers;
  body = accum_sig c.args.from c.in_ok-words.at _ c.in_ok-words.ensures.listed.numbers c.in_ok-words.ensures.listed.holds (c.in_ok-end.ensures.dot, c.in_ok-end.ensures.further);
  shown = c.in_ok-words.ensures.listed.spots;
  fits = omega arith;
}

pub returns-in_err-words-clause-fault : goal.returns-in_err-words-clause-fault
returns-in_err-words-clause-fault c =
    passed_up c.from_residual.result c.in_err-words.field-0.0 (λ f. MemoryOr f (StopsIn
    (spot_at c.args.input.now.file c.args.input.now.source.now c.args.input.now.tokens.now)
    (lexemes c.args.input.now.source.now c.args.input.now.tokens.now) (AtName keyword.AccumSig) c.args.from f)) c.from_residual.ensures.1
    (c.in_err-words.ensures.fault keyword.AccumSig refl)

pub returns-in_err-end-clause-fault : goal.returns-in_err-end-clause-fault
returns-in_err-end-clause-fault c =
    let w = c.in_ok-words.ensures.within in
    let l = length_lexemes c.args.input.now.source.now c.args.input.now.tokens.now in
    passed_up c.from_residual-in_err-end.result c.in_err-end.field-0.0 (λ f. MemoryOr f
    (StopsIn (spot_at c.args.input.now.file c.args.input.now.source.now c.args.input.now.tokens.now)
    (lexemes c.args.input.now.source.now c.args.input.now.tokens.now) (AtName keyword.AccumSig) c.args.from f))
    c.from_residual-in_err-end.ensures.1 (inr (list_dot_refused (spot_at c.args.input.now.file c.args.input.now.source.now
    c.args.input.now.tokens.now) (lexemes c.args.input.now.source.now c.args.input.now.tokens.now) keyword.AccumSig c.args.from c.in_ok-words.at _
    _ refl c.in_ok-words.ensures.listed.holds c.in_ok-words.ensures.no_comma c.in_err-end.ensures.none (omega (arith, w, l))
    c.in_err-end.ensures.refused))
