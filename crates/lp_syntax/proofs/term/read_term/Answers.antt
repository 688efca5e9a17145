use Rattle.std.proofs.Common.{arith}
use Rattle.lp_fixity.specs.Table.{entry_of}
use Rattle.lp_syntax.specs.Tokens.{lexemes}
use Rattle.lp_syntax.proofs.Tokens.{length_lexemes}
use Rattle.lp_syntax.proofs.TermSteps.{starts}
use Rattle.lp_syntax.proofs.term.read_term.Goals as goal

pub over-init : goal.over-init
over-init c =
    let e = length_lexemes c.args.input.now.source.now c.args.input.now.tokens.now in
    let l = c.requires in
    record {
      within = c.requires;
      further = omega arith;
      from = c.new-reader.ensures.from;
      reading = starts (entry_of c.args.table.now) (lexemes c.args.input.now.source.now c.args.input.now.tokens.now) c.new-reader.result c.args.from c.new-reader.ensures.from (omega (arith, e, l)) c.new-reader.ensures.reading;
    }
