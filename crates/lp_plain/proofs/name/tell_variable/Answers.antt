use Rattle.std.proofs.Common.{refl}
use Rattle.lp_model.specs.Skeleton.{GoalNote, variable}
use Rattle.lp_plain.proofs.HeardParts.{told_part}
use Rattle.lp_plain.proofs.name.tell_variable.Goals as goal

pub returns-clause-part : goal.returns-clause-part
returns-clause-part g c = λ cs. told_part cs c.tell.result (GoalNote variable) _ _ _ refl c.tell.ensures.told c.tell.ensures.memory
