use Rattle.std.proofs.Common.{inl, inr, ◌⊎◌, sym, subst, arith}
use Rattle.lp_lemmas.proofs.Results.{passed_up}
use Rattle.lp_syntax.specs.declared.class.Keyword.TheVariants as keyword
use Rattle.lp_syntax.specs.Tokens.{lexemes, spot_at}
use Rattle.lp_syntax.specs.Terms.{MemoryOr}
use Rattle.lp_syntax.specs.LineMachine.{AtHead, StopsIn, IsTooDeep}
use Rattle.lp_syntax.proofs.Tokens.{length_lexemes}
use Rattle.lp_syntax.proofs.LineCode.{memory_or}
use Rattle.lp_syntax.proofs.Depths.{counted_low, counted_high}
use Rattle.lp_syntax.specs.Declarations.{abbreviation, AbbreviationLine, IsShownType}
use Rattle.lp_syntax.proofs.LineParts.{head_type_refused, type_ends_wrong}
use Rattle.lp_syntax.proofs.declaration.abbreviation.Goals as goal

pub returns-clause-declared : goal.returns-clause-declared
returns-clause-declared c = record {
  line = AbbreviationLine c.in_ok-name.ensures.head.number c.in_ok-name.ensures.head.numbers c.in_ok-text.ensures.typed.tree;
  body = abbreviation c.args.from c.in_ok-name.at c.in_ok-text.at _ c.in_ok-name.ensures.head.number c.in_ok-name.ensures.head.numbers c.in_ok-text.ensures.typed.tree c.in_ok-name.ensures.head.head c.in_ok-text.ensures.typed.type_is (c.in_ok-end.ensures.dot, c.in_ok-end.ensures.further);
  shown = (c.in_ok-name.ensures.head.spot_is, c.in_ok-name.ensures.head.spots, (subst (λ x. IsShownType (spot_at c.args.input.now.file c.args.input.now.source.now c.args.input.now.tokens.now) x c.in_ok-text.ensures.typed.tree) (sym c.in_ok-body.ensures.text) c.in_ok-text.ensures.typed.shows));
  fits = counted_low _ _ 255 (c.in_ok-text.ensures.depth (spot_at c.args.input.now.file c.args.input.now.source.now c.args.input.now.tokens.now) c.in_ok-text.ensures.typed.tree c.in_ok-text.ensures.typed.shows) c.in_ok-body.ensures.fits (omega arith);
}

pub returns-in_err-name-clause-fault : goal.returns-in_err-name-clause-fault
returns-in_err-name-clause-fault c =
    passed_up c.from_residual.result c.in_err-name.field-0.0 (λ f. MemoryOr f (IsTooDeep
    (lexemes c.args.input.now.source.now c.args.input.now.tokens.now) keyword.Typeabbrev c.args.from f ⊎ StopsIn
    (spot_at c.args.input.now.file c.args.input.now.source.now c.args.input.now.tokens.now)
    (lexemes c.args.input.now.source.now c.args.input.now.tokens.now) AtHead c.args.from f)) c.from_residual.ensures.1
    (memory_or _ inr c.in_err-name.ensures.fault)

pub returns-in_err-text-clause-fault : goal.returns-in_err-text-clause-fault
returns-in_err-text-clause-fault c =
    passed_up c.from_residual-in_err-text.result c.in_err-text.field-0.0 (λ f. MemoryOr f
    (IsTooDeep (lexemes c.args.input.now.source.now c.args.input.now.tokens.now) keyword.Typeabbrev c.args.from f ⊎ StopsIn
    (spot_at c.args.input.now.file c.args.input.now.source.now c.args.input.now.tokens.now)
    (lexemes c.args.input.now.source.now c.args.input.now.tokens.now) AtHead c.args.from f)) c.from_residual-in_err-text.ensures.1
    (memory_or _ (λ s. inr (head_type_refused (spot_at c.args.input.now.file c.args.input.now.source.now c.args.input.now.tokens.now)
    (lexemes c.args.input.now.source.now c.args.input.now.tokens.now) c.args.from c.in_ok-name.at _ _ _ c.in_ok-name.ensures.head.head s))
    c.in_err-text.ensures.fault)

pub returns-in_err-end-clause-fault : goal.returns-in_err-end-clause-fault
returns-in_err-end-clause-fault c =
    let w = c.in_ok-text.ensures.within in
    let l = length_lexemes c.args.input.now.source.now c.args.input.now.tokens.now in
    passed_up c.from_residual-in_err-end.result c.in_err-end.field-0.0 (λ f. MemoryOr f
    (IsTooDeep (lexemes c.args.input.now.source.now c.args.input.now.tokens.now) keyword.Typeabbrev c.args.from f ⊎ StopsIn
    (spot_at c.args.input.now.file c.args.input.now.source.now c.args.input.now.tokens.now)
    (lexemes c.args.input.now.source.now c.args.input.now.tokens.now) AtHead c.args.from f)) c.from_residual-in_err-end.ensures.1
    (inr (inr (head_type_refused (spot_at c.args.input.now.file c.args.input.now.source.now c.args.input.now.tokens.now)
    (lexemes c.args.input.now.source.now c.args.input.now.tokens.now) c.args.from c.in_ok-name.at _ _ _ c.in_ok-name.ensures.head.head
    (type_ends_wrong (spot_at c.args.input.now.file c.args.input.now.source.now c.args.input.now.tokens.now)
    (lexemes c.args.input.now.source.now c.args.input.now.tokens.now) c.in_ok-name.at c.in_ok-text.at _ c.in_ok-text.ensures.end
    c.in_err-end.ensures.none (omega (arith, w, l)) c.in_err-end.ensures.refused))))

pub returns-in_err-body-clause-fault : goal.returns-in_err-body-clause-fault
returns-in_err-body-clause-fault c =
    passed_up c.from_residual-in_err-body.result c.in_err-body.field-0.0 (λ f. MemoryOr f
    (IsTooDeep (lexemes c.args.input.now.source.now c.args.input.now.tokens.now) keyword.Typeabbrev c.args.from f ⊎ StopsIn
    (spot_at c.args.input.now.file c.args.input.now.source.now c.args.input.now.tokens.now)
    (lexemes c.args.input.now.source.now c.args.input.now.tokens.now) AtHead c.args.from f)) c.from_residual-in_err-body.ensures.1
    (inr (inl (
      c.in_err-body.ensures.limit,
      (
        _,
        _,
        abbreviation c.args.from c.in_ok-name.at c.in_ok-text.at _ c.in_ok-name.ensures.head.number
            c.in_ok-name.ensures.head.numbers c.in_ok-text.ensures.typed.tree c.in_ok-name.ensures.head.head c.in_ok-text.ensures.typed.type_is
            (c.in_ok-end.ensures.dot, c.in_ok-end.ensures.further),
        counted_high _ _ 255
            (c.in_ok-text.ensures.depth (spot_at c.args.input.now.file c.args.input.now.source.now c.args.input.now.tokens.now)
            c.in_ok-text.ensures.typed.tree c.in_ok-text.ensures.typed.shows) c.in_err-body.ensures.deep,
      ),
    )))
