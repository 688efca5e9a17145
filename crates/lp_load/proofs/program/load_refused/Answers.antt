use Rattle.lp_load.proofs.Telling.{of_fault, tells_missing, tells_read}
use Rattle.lp_load.proofs.Unbuilding.{limit_so, named_so, none_told}
use Rattle.lp_load.proofs.program.load_refused.Goals as goal

pub returns-in-Read-clause-tells : goal.returns-in-Read-clause-tells
returns-in-Read-clause-tells g = tells_read g.in-Read.field-0 g.fault_name.result.now g.args.fault g.not_read.result g.in-Read.is g.not_read.ensures

pub returns-in-Missing-clause-tells : goal.returns-in-Missing-clause-tells
returns-in-Missing-clause-tells g = tells_missing g.in-Missing.field-0 g.fault_name-in-Missing.result.now g.args.fault g.not_there.result g.in-Missing.is g.not_there.ensures

pub returns-in-Lex-clause-placed : goal.returns-in-Lex-clause-placed
returns-in-Lex-clause-placed g told = λ h. of_fault told g.args.sources.now.refused _ _ _ g.without_tokens.result g.fault_name-in-Lex.ensures (rw g.in-Lex.is at h) g.without_tokens.ensures.placed

pub returns-in-Read-clause-file : goal.returns-in-Read-clause-file
returns-in-Read-clause-file g = λ told there. named_so told g.args.sources.now.refused g.fault_name.result.now _ g.args.fault g.not_read.result (λ h. h) g.fault_name.ensures g.in-Read.is there g.not_read.ensures

pub returns-in-Missing-clause-file : goal.returns-in-Missing-clause-file
returns-in-Missing-clause-file g = λ told there. named_so told g.args.sources.now.refused g.fault_name-in-Missing.result.now _ g.args.fault g.not_there.result (λ h. h) g.fault_name-in-Missing.ensures g.in-Missing.is there g.not_there.ensures

pub returns-in-Lex-clause-file : goal.returns-in-Lex-clause-file
returns-in-Lex-clause-file g = λ told there. named_so told g.args.sources.now.refused g.fault_name-in-Lex.result.now _ g.args.fault g.without_tokens.result (λ h. h) g.fault_name-in-Lex.ensures g.in-Lex.is there g.without_tokens.ensures.says

pub returns-in-Limit-clause-file : goal.returns-in-Limit-clause-file
returns-in-Limit-clause-file g = λ told there. limit_so g.args.sources.now.refused g.in-Limit.passed g.args.fault g.past_limit.result g.in-Limit.is g.past_limit.ensures

pub returns-in-Syntax-clause-file : goal.returns-in-Syntax-clause-file
returns-in-Syntax-clause-file g = λ told there. none_told told g.args.sources.now.refused g.args.fault there
