use Rattle.std.proofs.Common.{inl, inr, ◌⊎◌, refl, sym, subst, arith}
use Rattle.lp_syntax.specs.declared.class.Keyword.TheVariants as keyword
use Rattle.lp_syntax.specs.Tokens.{lexemes, spot_at}
use Rattle.lp_syntax.specs.Terms.{MemoryOr}
use Rattle.lp_syntax.specs.LineMachine.{AtName, StopsIn, IsTooDeep}
use Rattle.lp_syntax.proofs.Tokens.{length_lexemes}
use Rattle.lp_syntax.proofs.LineCode.{memory_or}
use Rattle.lp_syntax.proofs.Depths.{counted_low, counted_high}
use Rattle.std.specs.Prelude.{Some, None}
use Rattle.lp_lemmas.proofs.Results.{passed_up}
use Rattle.lp_syntax.specs.Declarations.{locals, locals_of, LocalLine, IsShownType}
use Rattle.lp_syntax.proofs.LineParts.{type_refused, type_ends_wrong}
use Rattle.lp_syntax.proofs.declaration.locals.Goals as goal

pub returns-then-is_dot-clause-declared : goal.returns-then-is_dot-clause-declared
returns-then-is_dot-clause-declared c = record {
  line = LocalLine c.in_ok-names.ensures.listed.numbers None;
  body = locals c.args.from c.in_ok-names.at _ c.in_ok-names.ensures.listed.numbers c.in_ok-names.ensures.listed.holds (c.if-is_dot.ensures.class refl, refl);
  shown = c.in_ok-names.ensures.listed.spots;
  fits = omega arith;
}

pub returns-clause-declared : goal.returns-clause-declared
returns-clause-declared c = record {
  line = LocalLine c.in_ok-names.ensures.listed.numbers (Some c.in_ok-text.ensures.typed.tree);
  body = locals_of c.args.from c.in_ok-names.at c.in_ok-text.at _ c.in_ok-names.ensures.listed.numbers c.in_ok-text.ensures.typed.tree c.in_ok-names.ensures.listed.holds c.in_ok-text.ensures.typed.type_is (c.in_ok-end.ensures.dot, c.in_ok-end.ensures.further);
  shown = (c.in_ok-names.ensures.listed.spots, (subst (λ x. IsShownType (spot_at c.args.input.now.file c.args.input.now.source.now c.args.input.now.tokens.now) x c.in_ok-text.ensures.typed.tree) (sym c.in_ok-ty.ensures.text) c.in_ok-text.ensures.typed.shows));
  fits = counted_low _ _ 255 (c.in_ok-text.ensures.depth (spot_at c.args.input.now.file c.args.input.now.source.now c.args.input.now.tokens.now) c.in_ok-text.ensures.typed.tree c.in_ok-text.ensures.typed.shows) c.in_ok-ty.ensures.fits (omega arith);
}

pub returns-in_err-names-clause-fault : goal.returns-in_err-names-clause-fault
returns-in_err-names-clause-fault c =
    passed_up c.from_residual.result c.in_err-names.field-0.0 (λ f. MemoryOr f (IsTooDeep
    (lexemes c.args.input.now.source.now c.args.input.now.tokens.now) keyword.Local c.args.from f ⊎ StopsIn
    (spot_at c.args.input.now.file c.args.input.now.source.now c.args.input.now.tokens.now)
    (lexemes c.args.input.now.source.now c.args.input.now.tokens.now) (AtName keyword.Local) c.args.from f)) c.from_residual.ensures.1
    (memory_or _ inr (c.in_err-names.ensures.fault keyword.Local refl))

pub returns-in_err-text-clause-fault : goal.returns-in_err-text-clause-fault
returns-in_err-text-clause-fault c =
    passed_up c.from_residual-in_err-text.result c.in_err-text.field-0.0 (λ f. MemoryOr f
    (IsTooDeep (lexemes c.args.input.now.source.now c.args.input.now.tokens.now) keyword.Local c.args.from f ⊎ StopsIn
    (spot_at c.args.input.now.file c.args.input.now.source.now c.args.input.now.tokens.now)
    (lexemes c.args.input.now.source.now c.args.input.now.tokens.now) (AtName keyword.Local) c.args.from f)) c.from_residual-in_err-text.ensures.1
    (memory_or _ (λ s. inr (type_refused (spot_at c.args.input.now.file c.args.input.now.source.now c.args.input.now.tokens.now)
    (lexemes c.args.input.now.source.now c.args.input.now.tokens.now) keyword.Local c.args.from c.in_ok-names.at _ _ refl
    c.in_ok-names.ensures.listed.holds c.in_ok-names.ensures.no_comma (λ y. c.if-is_dot.ensures.no refl) s)) c.in_err-text.ensures.fault)

pub returns-in_err-end-clause-fault : goal.returns-in_err-end-clause-fault
returns-in_err-end-clause-fault c =
    let w = c.in_ok-text.ensures.within in
    let l = length_lexemes c.args.input.now.source.now c.args.input.now.tokens.now in
    passed_up c.from_residual-in_err-end.result c.in_err-end.field-0.0 (λ f. MemoryOr f
    (IsTooDeep (lexemes c.args.input.now.source.now c.args.input.now.tokens.now) keyword.Local c.args.from f ⊎ StopsIn
    (spot_at c.args.input.now.file c.args.input.now.source.now c.args.input.now.tokens.now)
    (lexemes c.args.input.now.source.now c.args.input.now.tokens.now) (AtName keyword.Local) c.args.from f)) c.from_residual-in_err-end.ensures.1
    (inr (inr (type_refused (spot_at c.args.input.now.file c.args.input.now.source.now c.args.input.now.tokens.now)
    (lexemes c.args.input.now.source.now c.args.input.now.tokens.now) keyword.Local c.args.from c.in_ok-names.at _ _ refl
    c.in_ok-names.ensures.listed.holds c.in_ok-names.ensures.no_comma (λ y. c.if-is_dot.ensures.no refl)
    (type_ends_wrong (spot_at c.args.input.now.file c.args.input.now.source.now c.args.input.now.tokens.now)
    (lexemes c.args.input.now.source.now c.args.input.now.tokens.now) c.in_ok-names.at c.in_ok-text.at _ c.in_ok-text.ensures.end
    c.in_err-end.ensures.none (omega (arith, w, l)) c.in_err-end.ensures.refused))))

pub returns-in_err-ty-clause-fault : goal.returns-in_err-ty-clause-fault
returns-in_err-ty-clause-fault c =
    passed_up c.from_residual-in_err-ty.result c.in_err-ty.field-0.0 (λ f. MemoryOr f
    (IsTooDeep (lexemes c.args.input.now.source.now c.args.input.now.tokens.now) keyword.Local c.args.from f ⊎ StopsIn
    (spot_at c.args.input.now.file c.args.input.now.source.now c.args.input.now.tokens.now)
    (lexemes c.args.input.now.source.now c.args.input.now.tokens.now) (AtName keyword.Local) c.args.from f)) c.from_residual-in_err-ty.ensures.1
    (inr (inl (
      c.in_err-ty.ensures.limit,
      (
        _,
        _,
        locals_of c.args.from c.in_ok-names.at c.in_ok-text.at _ c.in_ok-names.ensures.listed.numbers
            c.in_ok-text.ensures.typed.tree c.in_ok-names.ensures.listed.holds c.in_ok-text.ensures.typed.type_is
            (c.in_ok-end.ensures.dot, c.in_ok-end.ensures.further),
        counted_high _ _ 255
            (c.in_ok-text.ensures.depth (spot_at c.args.input.now.file c.args.input.now.source.now c.args.input.now.tokens.now)
            c.in_ok-text.ensures.typed.tree c.in_ok-text.ensures.typed.shows) c.in_err-ty.ensures.deep,
      ),
    )))
