use Rattle.std.proofs.Common.{inl, refl}
use Rattle.lp_build.proofs.Compiling.{module_of_file, small_numbers}
use Rattle.lp_build.proofs.Unmaking.{file_fault}
use Rattle.lp_build.proofs.build.module_in.Goals as goal

pub returns-in_default-clause-cause : goal.returns-in_default-clause-cause
returns-in_default-clause-cause c = λ files few h. inl refl

pub returns-clause-cause : goal.returns-clause-cause
returns-clause-cause c = λ files few h. file_fault files c.args.whole.now.texts.signatures c.args.whole.now.texts.modules c.in-Some.place c.args.number c.module_at.result
    (c.in-Some.ensures (small_numbers files c.args.whole.now few h))
    (c.module_at.ensures.cause files c.args.whole.now.texts.signatures h.links h.declared)

pub returns-clause-meant : goal.returns-clause-meant
returns-clause-meant c = λ files few h. module_of_file files c.args.whole.now.texts.signatures c.args.whole.now.texts.modules c.args.number c.in-Some.place c.module_at.result
    (c.in-Some.ensures (small_numbers files c.args.whole.now few h))
    (c.module_at.ensures.meaning files c.args.whole.now.texts.signatures h.links h.declared)
