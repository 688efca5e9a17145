use Rattle.lp_module.proofs.Forming.{deep_fault, wide_fault, variables_fault, in_term_fault, other_fault, no_fault}
use Rattle.lp_module.proofs.form.first_fault.Goals as goal

pub returns-then-verdict-clause-refused : goal.returns-then-verdict-clause-refused
returns-then-verdict-clause-refused c = λ d goal formula form is short. deep_fault d goal c.args.type_vars formula form c.args.verdict is short c.args.first c.if-verdict.true

pub returns-then-verdict-2-clause-refused : goal.returns-then-verdict-2-clause-refused
returns-then-verdict-2-clause-refused c = λ d goal formula form is short. wide_fault d goal c.args.type_vars formula form c.args.verdict is short c.args.first c.if-verdict.false c.if-verdict-2.true

pub returns-then-type_vars-clause-refused : goal.returns-then-type_vars-clause-refused
returns-then-type_vars-clause-refused c = λ d goal formula form is short. variables_fault d goal c.args.type_vars formula form c.args.verdict is short c.args.first c.if-verdict.false c.if-verdict-2.false c.if-type_vars.true

pub returns-then-verdict-3-clause-refused : goal.returns-then-verdict-3-clause-refused
returns-then-verdict-3-clause-refused c = λ d goal formula form is short. in_term_fault d goal c.args.type_vars formula form c.args.verdict is short c.args.first c.if-verdict.false c.if-verdict-2.false c.if-type_vars.false c.if-verdict-3.true

pub returns-then-verdict-4-clause-refused : goal.returns-then-verdict-4-clause-refused
returns-then-verdict-4-clause-refused c = λ d goal formula form is short. other_fault d goal c.args.type_vars formula form c.args.verdict is short c.args.first c.if-verdict.false c.if-verdict-2.false c.if-type_vars.false c.if-verdict-3.false c.if-verdict-4.true

pub returns-clause-formed : goal.returns-clause-formed
returns-clause-formed c = λ d goal formula form is short. no_fault d goal c.args.type_vars formula form c.args.verdict is short c.args.first c.if-verdict.false c.if-verdict-2.false c.if-type_vars.false c.if-verdict-3.false c.if-verdict-4.false
