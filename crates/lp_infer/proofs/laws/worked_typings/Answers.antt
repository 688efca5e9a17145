use Rattle.lp_infer.proofs.TypingRows as rows
use Rattle.lp_infer.proofs.laws.worked_typings.Goals as goal

pub returns-clause-nil : goal.returns-clause-nil
returns-clause-nil c = rows.of_nil

pub returns-clause-list : goal.returns-clause-list
returns-clause-list c = rows.of_list

pub returns-clause-two : goal.returns-clause-two
returns-clause-two c = rows.of_two_types

pub returns-clause-annotated : goal.returns-clause-annotated
returns-clause-annotated c = rows.of_annotated

pub returns-clause-one : goal.returns-clause-one
returns-clause-one c = rows.of_one

pub returns-clause-self_applied : goal.returns-clause-self_applied
returns-clause-self_applied c = rows.of_self
