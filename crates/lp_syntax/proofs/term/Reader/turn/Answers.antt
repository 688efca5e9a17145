use Rattle.std.proofs.Common.{sym, ◌∙◌, arith, inr}
use Rattle.std.specs.Prelude.{Some}
use Rattle.lp_fixity.specs.Table.{entry_of}
use Rattle.lp_syntax.specs.declared.symbol.Fault.TheVariants.{Unexpected}
use Rattle.lp_syntax.specs.Tokens.{lexemes, spot_at}
use Rattle.lp_syntax.proofs.Tokens.{length_lexemes}
use Rattle.lp_syntax.proofs.TermSteps.{colon_faults, no_binder, refused_is}
use Rattle.lp_syntax.proofs.term.Reader.turn.Goals as goal

pub returns-then-is_colon-clause-fault : goal.returns-then-is_colon-clause-fault
returns-then-is_colon-clause-fault c =
    let e = length_lexemes c.args.input.now.source.now c.args.input.now.tokens.now in
    let l = c.requires.at in
    inr
    (colon_faults (spot_at c.args.input.now.file c.args.input.now.source.now c.args.input.now.tokens.now) (entry_of c.args.table.now)
    (lexemes c.args.input.now.source.now c.args.input.now.tokens.now) c.args.self.now c.args.doing c.args.at Unexpected _ c.requires.reading
    (omega (arith, e, l)) (sym c.class.ensures ∙ c.is_colon.ensures.yes c.if-is_colon.true)
    (no_binder c.args.self.now c.args.doing (Some c.args.at) (c.may_bind.ensures.no c.if-may_bind.false))
    (refused_is (spot_at c.args.input.now.file c.args.input.now.source.now c.args.input.now.tokens.now) (entry_of c.args.table.now)
    (lexemes c.args.input.now.source.now c.args.input.now.tokens.now) c.args.self.now c.args.doing c.args.at c.innermost.result _
    c.requires.reading c.refusal.ensures c.innermost.ensures))
