use Rattle.std.proofs.Common.{inr, length, subst, arith}
use Rattle.lp_syntax.specs.Tokens.{lexemes, spot_at}
use Rattle.lp_syntax.specs.Ends.{IsUpTo}
use Rattle.lp_syntax.specs.TypeViews.{IsTypeEnd}
use Rattle.lp_syntax.proofs.Tokens.{length_lexemes}
use Rattle.lp_syntax.proofs.LineCode.{type_stops}
use Rattle.lp_syntax.proofs.parts.declared_type.Goals as goal

pub returns-in-Stopped-clause-fault : goal.returns-in-Stopped-clause-fault
returns-in-Stopped-clause-fault c =
    let s = subst (IsTypeEnd (lexemes c.args.input.now.source.now c.args.input.now.tokens.now) c.args.from) c.in-Stopped.is c.in_ok-at.ensures.end in
    let w = subst (IsUpTo (length c.args.input.now.tokens.now)) c.in-Stopped.is c.in_ok-at.ensures.within in
    let e = length_lexemes c.args.input.now.source.now c.args.input.now.tokens.now in
    inr (type_stops (spot_at c.args.input.now.file c.args.input.now.source.now c.args.input.now.tokens.now) (lexemes c.args.input.now.source.now c.args.input.now.tokens.now) c.args.from c.in-Stopped.at c.in-Stopped.open _ s.0 s.1 (omega (arith, w, e)) c.refusal.ensures)
