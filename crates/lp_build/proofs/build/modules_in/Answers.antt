use Rattle.lp_build.proofs.build.modules_in.Goals as goal

pub returns-clause-meanings : goal.returns-clause-meanings
returns-clause-meanings c = λ files h. c.modules_of.ensures.meanings files c.args.whole.now.texts.signatures h.links h.declared

pub returns-clause-cause : goal.returns-clause-cause
returns-clause-cause c = λ files h. c.modules_of.ensures.cause files c.args.whole.now.texts.signatures h.links h.declared
