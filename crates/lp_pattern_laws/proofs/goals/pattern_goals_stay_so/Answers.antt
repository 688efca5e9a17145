use Rattle.lp_pattern_laws.proofs.GoalsMapped as lemmas
use Rattle.lp_pattern_laws.proofs.TextStays.{text_stays}
use Rattle.lp_pattern_laws.proofs.goals.pattern_goals_stay_so.Goals as goal

pub returns-clause-texts : goal.returns-clause-texts
returns-clause-texts c = λ l Γ t h. text_stays l Γ t h

pub returns-clause-values : goal.returns-clause-values
returns-clause-values c = λ l Γ b v g h. lemmas.put_kept l Γ b v g h

pub returns-clause-types : goal.returns-clause-types
returns-clause-types c = λ l Γ κ g h. lemmas.types_kept l Γ κ g h

pub returns-clause-variables : goal.returns-clause-variables
returns-clause-variables c = λ l f p w gs h. lemmas.value_opens l f p w gs h

pub returns-clause-eigenconstants : goal.returns-clause-eigenconstants
returns-clause-eigenconstants c = λ l k m f is above less gs h. lemmas.eigen_opens l k m f is above less gs h
