use Rattle.std.proofs.Common.{arith}
use Rattle.lp_fixity.specs.Table.{entry_of}
use Rattle.lp_syntax.specs.Tokens.{lexemes, spot_at}
use Rattle.lp_syntax.specs.Terms.{TermFault}
use Rattle.lp_syntax.specs.TermViews.{NoteFault}
use Rattle.lp_syntax.proofs.Tokens.{length_lexemes}
use Rattle.lp_syntax.proofs.TermSteps.{note_reads, note_faults, passed_on}
use Rattle.lp_syntax.proofs.term.Reader.note.Goals as goal

pub returns-in_err-end-clause-fault : goal.returns-in_err-end-clause-fault
returns-in_err-end-clause-fault c =
    passed_on c.from_residual.result c.in_err-end.field-0.0 (NoteFault (spot_at c.args.input.now.file c.args.input.now.source.now
    c.args.input.now.tokens.now) (lexemes c.args.input.now.source.now c.args.input.now.tokens.now) c.args.self.now.opens.items c.args.at)
    (TermFault (spot_at c.args.input.now.file c.args.input.now.source.now c.args.input.now.tokens.now) (entry_of c.args.table.now)
    (lexemes c.args.input.now.source.now c.args.input.now.tokens.now) c.args.self.now.from) c.from_residual.ensures.1
    (λ f. note_faults (spot_at c.args.input.now.file c.args.input.now.source.now c.args.input.now.tokens.now) (entry_of c.args.table.now) (lexemes c.args.input.now.source.now c.args.input.now.tokens.now) c.args.self.now c.args.doing c.args.at f c.requires.reading c.requires.colon c.requires.binds)
    c.in_err-end.ensures.fault

pub returns-in-Goes-clause-reading : goal.returns-in-Goes-clause-reading
returns-in-Goes-clause-reading c =
    let e = length_lexemes c.args.input.now.source.now c.args.input.now.tokens.now in
    let l = c.in_ok-end.ensures.within in
    note_reads (entry_of c.args.table.now) (lexemes c.args.input.now.source.now c.args.input.now.tokens.now) c.args.self.now c.args.doing
    c.in-Goes.next c.args.at c.in_ok-end.end c.step.new.nodes c.step.new.frames c.in_ok-next.field-0 c.requires.reading
    c.in_ok-end.ensures.further (omega (arith, e, l)) c.requires.colon c.in_ok-end.ensures.note c.in_ok-end.ensures.mark c.in-Goes.is
    c.in_ok-next.ensures
