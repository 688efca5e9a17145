use Rattle.lp_module.proofs.form.goal_form.Goals as goal

pub check_form-requires : goal.check_form-requires
check_form-requires c = record { measured = c.new-measures.ensures c.args.bank.now }
