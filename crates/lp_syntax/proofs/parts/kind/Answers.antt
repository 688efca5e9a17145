use Rattle.std.proofs.Common.{refl, arith}
use Rattle.lp_syntax.specs.Tokens.{lexemes, spot_at}
use Rattle.lp_syntax.specs.Declarations.{no_argument, argument}
use Rattle.lp_syntax.proofs.Tokens.{length_lexemes}
use Rattle.lp_syntax.proofs.LineCode.{kind_stops}
use Rattle.lp_syntax.proofs.parts.kind.Goals as goal

pub over-init : goal.over-init
over-init c = record { within = c.requires; from = omega arith; front = no_argument }

pub returns-then-not-is_arrow-clause-kind : goal.returns-then-not-is_arrow-clause-kind
returns-then-not-is_arrow-clause-kind c = record { final = c.over.at; front = c.over.invariant.front; target = c.over-test.ensures.class refl; end = refl }

pub over-preserved : goal.over-preserved
over-preserved c =
    let v = c.over.invariant in
    let w = c.if-not-is_arrow.ensures.within refl in
    let f = v.from in
    record {
      within = omega (arith, w);
      from = omega (arith, f);
      front = argument c.over.at _ c.over.arguments _ v.front (c.over-test.ensures.class refl) (c.if-not-is_arrow.ensures.class refl) refl c.saturating_add-arguments.ensures;
    }

pub returns-clause-fault : goal.returns-clause-fault
returns-clause-fault c =
    let v = c.over.invariant in
    let w = v.within in
    let e = length_lexemes c.args.input.now.source.now c.args.input.now.tokens.now in
    kind_stops (spot_at c.args.input.now.file c.args.input.now.source.now c.args.input.now.tokens.now) (lexemes c.args.input.now.source.now c.args.input.now.tokens.now) c.args.from c.over.at _ _ v.front (c.over-test.ensures.no refl) (omega (arith, w, e)) c.refusal.ensures
