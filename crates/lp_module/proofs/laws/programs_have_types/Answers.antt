use Rattle.lp_module.proofs.Lookups.{hidden_have_types, exported_have_types}
use Rattle.lp_module.proofs.laws.programs_have_types.Goals as goal

pub returns-clause-hidden : goal.returns-clause-hidden
returns-clause-hidden c = λ modules root a p all. hidden_have_types modules root a p all

pub returns-clause-exported : goal.returns-clause-exported
returns-clause-exported c = λ modules root a p all. exported_have_types modules root a p all
