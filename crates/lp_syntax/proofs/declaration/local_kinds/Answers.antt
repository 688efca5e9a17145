use Rattle.std.proofs.Common.{inr, refl, arith}
use Rattle.lp_syntax.specs.declared.class.Keyword.TheVariants as keyword
use Rattle.lp_syntax.specs.Tokens.{lexemes, spot_at}
use Rattle.lp_syntax.specs.Terms.{MemoryOr}
use Rattle.lp_syntax.specs.LineMachine.{AtName, StopsIn}
use Rattle.lp_syntax.proofs.Tokens.{length_lexemes}
use Rattle.std.specs.Prelude.{Some, None}
use Rattle.lp_lemmas.proofs.Results.{passed_up}
use Rattle.lp_syntax.specs.Declarations.{local_kinds, local_kinds_of, LocalKindLine}
use Rattle.lp_syntax.proofs.LineParts.{kind_refused, kind_dot_refused}
use Rattle.lp_syntax.proofs.declaration.local_kinds.Goals as goal

pub returns-then-is_dot-clause-declared : goal.returns-then-is_dot-clause-declared
returns-then-is_dot-clause-declared c = record {
  line = LocalKindLine c.in_ok-names.ensures.listed.numbers None;
  body = local_kinds c.args.from c.in_ok-names.at _ c.in_ok-names.ensures.listed.numbers c.in_ok-names.ensures.listed.holds (c.if-is_dot.ensures.class refl, refl);
  shown = (c.in_ok-names.ensures.listed.spots, refl);
  fits = omega arith;
}

pub returns-clause-declared : goal.returns-clause-declared
returns-clause-declared c = record {
  line = LocalKindLine c.in_ok-names.ensures.listed.numbers (Some c.in_ok-arguments.arguments);
  body = local_kinds_of c.args.from c.in_ok-names.at c.in_ok-arguments.at _ c.in_ok-arguments.arguments c.in_ok-names.ensures.listed.numbers c.in_ok-names.ensures.listed.holds c.in_ok-arguments.ensures.kind (c.in_ok-end.ensures.dot, c.in_ok-end.ensures.further);
  shown = (c.in_ok-names.ensures.listed.spots, refl);
  fits = omega arith;
}

pub returns-in_err-names-clause-fault : goal.returns-in_err-names-clause-fault
returns-in_err-names-clause-fault c =
    passed_up c.from_residual.result c.in_err-names.field-0.0 (λ f. MemoryOr f (StopsIn
    (spot_at c.args.input.now.file c.args.input.now.source.now c.args.input.now.tokens.now)
    (lexemes c.args.input.now.source.now c.args.input.now.tokens.now) (AtName keyword.Localkind) c.args.from f)) c.from_residual.ensures.1
    (c.in_err-names.ensures.fault keyword.Localkind refl)

pub returns-in_err-arguments-clause-fault : goal.returns-in_err-arguments-clause-fault
returns-in_err-arguments-clause-fault c =
    passed_up c.from_residual-in_err-arguments.result c.in_err-arguments.field-0.0 (λ f. MemoryOr f
    (StopsIn (spot_at c.args.input.now.file c.args.input.now.source.now c.args.input.now.tokens.now)
    (lexemes c.args.input.now.source.now c.args.input.now.tokens.now) (AtName keyword.Localkind) c.args.from f))
    c.from_residual-in_err-arguments.ensures.1 (inr (kind_refused (spot_at c.args.input.now.file c.args.input.now.source.now
    c.args.input.now.tokens.now) (lexemes c.args.input.now.source.now c.args.input.now.tokens.now) keyword.Localkind c.args.from c.in_ok-names.at
    _ _ refl c.in_ok-names.ensures.listed.holds c.in_ok-names.ensures.no_comma (λ y. c.if-is_dot.ensures.no refl)
    c.in_err-arguments.ensures.fault))

pub returns-in_err-end-clause-fault : goal.returns-in_err-end-clause-fault
returns-in_err-end-clause-fault c =
    let w = c.in_ok-arguments.ensures.within in
    let l = length_lexemes c.args.input.now.source.now c.args.input.now.tokens.now in
    passed_up c.from_residual-in_err-end.result c.in_err-end.field-0.0 (λ f. MemoryOr f
    (StopsIn (spot_at c.args.input.now.file c.args.input.now.source.now c.args.input.now.tokens.now)
    (lexemes c.args.input.now.source.now c.args.input.now.tokens.now) (AtName keyword.Localkind) c.args.from f))
    c.from_residual-in_err-end.ensures.1 (inr (kind_dot_refused (spot_at c.args.input.now.file c.args.input.now.source.now
    c.args.input.now.tokens.now) (lexemes c.args.input.now.source.now c.args.input.now.tokens.now) keyword.Localkind c.args.from c.in_ok-names.at
    c.in_ok-arguments.at _ _ _ refl c.in_ok-names.ensures.listed.holds c.in_ok-arguments.ensures.kind c.in_ok-arguments.ensures.no_arrow
    c.in_err-end.ensures.none (omega (arith, w, l)) c.in_err-end.ensures.refused))
