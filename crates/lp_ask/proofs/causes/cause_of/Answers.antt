use Rattle.lp_ask.proofs.causes.cause_of.Goals as goal

pub returns-in-Syntax : goal.returns-in-Syntax
returns-in-Syntax c = λ text h. c.of_syntax.ensures.cause text

pub returns-in-Infer : goal.returns-in-Infer
returns-in-Infer c = λ text h. c.of_typing.ensures.cause text

pub returns-in-Form : goal.returns-in-Form
returns-in-Form c = λ text h. c.of_module.ensures.cause text
