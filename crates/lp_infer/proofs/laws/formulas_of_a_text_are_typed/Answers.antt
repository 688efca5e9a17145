use Rattle.lp_infer.proofs.Renaming.{elaborates_typed, elaborates_leaves}
use Rattle.lp_infer.proofs.laws.formulas_of_a_text_are_typed.Goals as goal

pub returns-clause-typed : goal.returns-clause-typed
returns-clause-typed c = elaborates_typed

pub returns-clause-leaves : goal.returns-clause-leaves
returns-clause-leaves c = elaborates_leaves
