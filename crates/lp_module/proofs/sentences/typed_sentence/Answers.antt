use Rattle.std.proofs.Common.{refl}
use Rattle.lp_module.proofs.sentences.typed_sentence.Goals as goal

pub returns-in-Ok-clause-sentence : goal.returns-in-Ok-clause-sentence
returns-in-Ok-clause-sentence c = record { first = refl; few = c.in_ok-has_many_arguments.ensures.few c.if-branch.false; stands = c.in-Ok.ensures.stands; typed = c.in-Ok.ensures.typed }
