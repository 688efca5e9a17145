use Rattle.lp_build.proofs.texts.Texts.add.Goals as goal

pub returns-in-Signature-clause-texts : goal.returns-in-Signature-clause-texts
returns-in-Signature-clause-texts c = λ at lt links so. c.add_signature.ensures.texts c.args.sources.now.files.items at c.in-Signature.is lt so

pub returns-in-Module-clause-texts : goal.returns-in-Module-clause-texts
returns-in-Module-clause-texts c = λ at lt links so. c.add_module.ensures.texts at c.in-Module.is lt links so

pub returns-in-Signature-clause-cause : goal.returns-in-Signature-clause-cause
returns-in-Signature-clause-cause c = λ lt links. c.add_signature.ensures.cause c.args.sources.now.files.items c.in-Signature.is lt

pub returns-in-Module-clause-cause : goal.returns-in-Module-clause-cause
returns-in-Module-clause-cause c = λ lt links. c.add_module.ensures.cause c.in-Module.is lt links
