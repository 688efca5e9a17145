use Rattle.lp_fixity.specs.Table.{entry_of}
use Rattle.lp_syntax.specs.Tokens.{lexemes, spot_at}
use Rattle.lp_syntax.proofs.ModuleUnique.{module_given}
use Rattle.lp_syntax.proofs.whole.module_text.Goals as goal

pub returns-clause-only : goal.returns-clause-only
returns-clause-only c = module_given (spot_at c.args.file c.args.source.now c.args.tokens.now) (entry_of c.args.table.now) (entry_of c.read_module.new.table) (lexemes c.args.source.now c.args.tokens.now) c.read_module.result c.read_module.ensures.tree c.read_module.ensures.fault
