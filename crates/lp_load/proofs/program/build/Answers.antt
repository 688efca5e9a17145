use Rattle.lp_load.specs.Unbuilt.{of_texts}
use Rattle.lp_load.proofs.Programs.{not_grown}
use Rattle.lp_load.proofs.program.build.Goals as goal

pub returns-in-Ok-clause-program : goal.returns-in-Ok-clause-program
returns-in-Ok-clause-program g = λ read. record { first = g.in-Ok.built; is = g.in-Ok.ensures.program read; grown = not_grown g.in-Ok.built }

pub returns-in-Err-clause-cause : goal.returns-in-Err-clause-cause
returns-in-Err-clause-cause g = λ read. of_texts g.in-Err.fault g.cause_of.result (g.in-Err.ensures.cause read) g.cause_of.ensures.tells g.text_refused.ensures.says
