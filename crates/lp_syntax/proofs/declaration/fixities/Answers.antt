use Rattle.std.proofs.Common.{inr, ◌+◌, refl, sym, ap, ◌∙◌, arith}
use Rattle.lp_lemmas.proofs.Results.{passed_up}
use Rattle.lp_syntax.specs.declared.class.Keyword.TheVariants as keyword
use Rattle.lp_syntax.specs.Tokens.{lexemes, spot_at, class_at}
use Rattle.lp_syntax.specs.Terms.{MemoryOr}
use Rattle.lp_syntax.specs.LineMachine.{AtName, StopsIn}
use Rattle.lp_syntax.proofs.Tokens.{length_lexemes}
use Rattle.lp_syntax.specs.Declarations.{fixities, FixityLine}
use Rattle.lp_syntax.proofs.LineParts.{number_refused, number_dot_refused}
use Rattle.lp_syntax.proofs.declaration.fixities.Goals as goal

pub returns-clause-declared : goal.returns-clause-declared
returns-clause-declared c = record {
  line = FixityLine c.in_ok-names.ensures.listed.numbers c.args.fixity c.in_ok-number.number;
  body = fixities c.args.from c.in_ok-names.at _ c.in_ok-number.number c.args.fixity c.in_ok-names.ensures.listed.numbers
      c.in_ok-names.ensures.listed.holds c.in_ok-number.ensures.number (
        ap (class_at
            (lexemes c.args.input.now.source.now c.args.input.now.tokens.now)) (sym c.in_ok-number.ensures.end) ∙ c.in_ok-end.ensures.dot,
        c.in_ok-end.ensures.further ∙ ap (λ k. k + 1) c.in_ok-number.ensures.end,
      );
  shown = (c.in_ok-names.ensures.listed.spots, refl, refl);
  fits = omega arith;
}

pub returns-in_err-names-clause-fault : goal.returns-in_err-names-clause-fault
returns-in_err-names-clause-fault c =
    passed_up c.from_residual.result c.in_err-names.field-0.0 (λ f. MemoryOr f (StopsIn
    (spot_at c.args.input.now.file c.args.input.now.source.now c.args.input.now.tokens.now)
    (lexemes c.args.input.now.source.now c.args.input.now.tokens.now) (AtName (keyword.Fixity c.args.fixity)) c.args.from f))
    c.from_residual.ensures.1 (c.in_err-names.ensures.fault (keyword.Fixity c.args.fixity) refl)

pub returns-in_err-number-clause-fault : goal.returns-in_err-number-clause-fault
returns-in_err-number-clause-fault c =
    let w = c.in_ok-names.ensures.within in
    let l = length_lexemes c.args.input.now.source.now c.args.input.now.tokens.now in
    passed_up c.from_residual-in_err-number.result c.in_err-number.field-0.0 (λ f. MemoryOr f
    (StopsIn (spot_at c.args.input.now.file c.args.input.now.source.now c.args.input.now.tokens.now)
    (lexemes c.args.input.now.source.now c.args.input.now.tokens.now) (AtName (keyword.Fixity c.args.fixity)) c.args.from f))
    c.from_residual-in_err-number.ensures.1 (inr (number_refused (spot_at c.args.input.now.file c.args.input.now.source.now
    c.args.input.now.tokens.now) (lexemes c.args.input.now.source.now c.args.input.now.tokens.now) c.args.fixity c.args.from c.in_ok-names.at _ _
    c.in_ok-names.ensures.listed.holds c.in_ok-names.ensures.no_comma c.in_err-number.ensures.none (omega (arith, w, l))
    c.in_err-number.ensures.refused))

pub returns-in_err-end-clause-fault : goal.returns-in_err-end-clause-fault
returns-in_err-end-clause-fault c =
    let w = c.in_ok-number.ensures.within in
    let l = length_lexemes c.args.input.now.source.now c.args.input.now.tokens.now in
    passed_up c.from_residual-in_err-end.result c.in_err-end.field-0.0 (λ f. MemoryOr f
    (StopsIn (spot_at c.args.input.now.file c.args.input.now.source.now c.args.input.now.tokens.now)
    (lexemes c.args.input.now.source.now c.args.input.now.tokens.now) (AtName (keyword.Fixity c.args.fixity)) c.args.from f))
    c.from_residual-in_err-end.ensures.1 (inr (number_dot_refused (spot_at c.args.input.now.file c.args.input.now.source.now
    c.args.input.now.tokens.now) (lexemes c.args.input.now.source.now c.args.input.now.tokens.now) c.args.fixity c.args.from c.in_ok-names.at
    c.in_ok-number.at _ _ _ c.in_ok-names.ensures.listed.holds c.in_ok-number.ensures.number c.in_ok-number.ensures.end c.in_err-end.ensures.none
    (omega (arith, w, l)) c.in_err-end.ensures.refused))
