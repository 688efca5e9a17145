use Rattle.std.proofs.Common.{sym, ◌∙◌}
use Rattle.lp_fixity.specs.Table.{entry_of}
use Rattle.lp_syntax.proofs.whole.module_line.Goals as goal

pub returns-in-Keyword-clause-sentence : goal.returns-in-Keyword-clause-sentence
returns-in-Keyword-clause-sentence c = c.declares.ensures.sentence (entry_of c.args.table.now) (sym c.class.ensures ∙ c.in-Keyword.is)

pub returns-in-Keyword-clause-fault : goal.returns-in-Keyword-clause-fault
returns-in-Keyword-clause-fault c = c.declares.ensures.fault (entry_of c.args.table.now) (sym c.class.ensures ∙ c.in-Keyword.is)

pub returns-in_default-clause-fault : goal.returns-in_default-clause-fault
returns-in_default-clause-fault c = c.says.ensures.fault (λ k y. c.in_default.not-Keyword k (c.class.ensures ∙ y))
