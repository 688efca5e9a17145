use Rattle.std.proofs.Common.{sym, ap, ◌∙◌, arith, inr}
use Rattle.lp_fixity.specs.Table.{entry_of}
use Rattle.lp_syntax.specs.declared.symbol.Fault.TheVariants.{Unexpected, Ambiguous}
use Rattle.lp_syntax.specs.declared.held.Step.TheVariants.{Stops}
use Rattle.lp_syntax.specs.declared.fault.SyntaxFault.TheVariants as fault
use Rattle.lp_syntax.specs.Machine.{step}
use Rattle.lp_syntax.specs.Tokens.{lexemes, spot_at, open_behind}
use Rattle.lp_syntax.specs.TermViews.{state_of}
use Rattle.lp_syntax.proofs.Tokens.{length_lexemes}
use Rattle.lp_syntax.proofs.TermSteps.{token_reads, token_faults, stopped, refused_is}
use Rattle.lp_syntax.proofs.FaultKinds.{kind_unexpected, kind_ambiguous}
use Rattle.lp_syntax.proofs.term.Reader.token.Goals as goal

pub returns-in_ok-follow-in-Goes-clause-reading : goal.returns-in_ok-follow-in-Goes-clause-reading
returns-in_ok-follow-in-Goes-clause-reading c =
    let e = length_lexemes c.args.input.now.source.now c.args.input.now.tokens.now in
    let l = c.requires.at in
    token_reads (entry_of c.args.table.now) (lexemes c.args.input.now.source.now c.args.input.now.tokens.now) c.args.self.now c.args.doing
    c.in-Goes.next c.args.at c.step.new.nodes c.step.new.frames c.follow.new.opens c.symbol.result c.in_ok-next.field-0 c.requires.reading
    (omega (arith, e, l)) c.requires.plain c.symbol.ensures c.in-Goes.is c.in_ok-next.ensures
    (c.in_ok-follow-in-Goes.ensures ∙ ap (λ k. open_behind c.args.at k c.args.self.now.opens.items) c.class.ensures)

pub returns-in-Stops-Unexpected-clause-fault : goal.returns-in-Stops-Unexpected-clause-fault
returns-in-Stops-Unexpected-clause-fault c =
    let e = length_lexemes c.args.input.now.source.now c.args.input.now.tokens.now in
    let l = c.requires.at in
    let s = (ap (step (state_of c.args.self.now c.args.doing)) (sym c.symbol.ensures) ∙ stopped c.args.self.now c.args.doing c.step.new.nodes.items
    c.step.new.frames.items c.symbol.result c.in_ok-next.field-0 Unexpected (c.in-Stops-Unexpected.is ∙ ap Stops c.in-Stops-Unexpected.field-0-is)
    c.in_ok-next.ensures) in
    inr
    (token_faults (spot_at c.args.input.now.file c.args.input.now.source.now c.args.input.now.tokens.now) (entry_of c.args.table.now)
    (lexemes c.args.input.now.source.now c.args.input.now.tokens.now) c.args.self.now c.args.doing c.args.at Unexpected _ c.requires.reading
    (omega (arith, e, l)) c.requires.plain c.requires.dot s
    (kind_unexpected (spot_at c.args.input.now.file c.args.input.now.source.now c.args.input.now.tokens.now) (entry_of c.args.table.now)
    (lexemes c.args.input.now.source.now c.args.input.now.tokens.now) c.args.self.now.from c.args.at (state_of c.args.self.now c.args.doing) _
    c.requires.reading.read s (refused_is (spot_at c.args.input.now.file c.args.input.now.source.now c.args.input.now.tokens.now)
    (entry_of c.args.table.now) (lexemes c.args.input.now.source.now c.args.input.now.tokens.now) c.args.self.now c.args.doing c.args.at
    c.innermost.result _ c.requires.reading c.refusal.ensures c.innermost.ensures)))

pub returns-in-Stops-Ambiguous-clause-fault : goal.returns-in-Stops-Ambiguous-clause-fault
returns-in-Stops-Ambiguous-clause-fault c =
    let e = length_lexemes c.args.input.now.source.now c.args.input.now.tokens.now in
    let l = c.requires.at in
    let s = (ap (step (state_of c.args.self.now c.args.doing)) (sym c.symbol.ensures) ∙ stopped c.args.self.now c.args.doing c.step.new.nodes.items
    c.step.new.frames.items c.symbol.result c.in_ok-next.field-0 Ambiguous (c.in-Stops-Ambiguous.is ∙ ap Stops c.in-Stops-Ambiguous.field-0-is)
    c.in_ok-next.ensures) in
    inr
    (token_faults (spot_at c.args.input.now.file c.args.input.now.source.now c.args.input.now.tokens.now) (entry_of c.args.table.now)
    (lexemes c.args.input.now.source.now c.args.input.now.tokens.now) c.args.self.now c.args.doing c.args.at Ambiguous _ c.requires.reading
    (omega (arith, e, l)) c.requires.plain c.requires.dot s
    (kind_ambiguous (spot_at c.args.input.now.file c.args.input.now.source.now c.args.input.now.tokens.now) (entry_of c.args.table.now)
    (lexemes c.args.input.now.source.now c.args.input.now.tokens.now) c.args.self.now.from c.args.at (state_of c.args.self.now c.args.doing) _
    c.requires.reading.read s (ap fault.Ambiguous c.spot.ensures)))
