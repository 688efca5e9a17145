use Rattle.std.proofs.lemmas.Result.{on_ok_weaker}
use Rattle.lp_plain.proofs.Hearing.{heard_back, heard_no_back}
use Rattle.std.proofs.Common.{refl}
use Rattle.lp_model.specs.Skeleton.{BackNote}
use Rattle.lp_plain.proofs.HeardParts.{part_back, part_none, told_part}
use Rattle.lp_plain.proofs.turn.tell_back.Goals as goal

pub returns-then-has_choice-clause-told : goal.returns-then-has_choice-clause-told
returns-then-has_choice-clause-told g c = on_ok_weaker c.tell.result (λ h cs. heard_back cs c.args.machine.now _ _ (c.has_choice.ensures.some c.if-has_choice.true) h) c.tell.ensures.told

pub returns-clause-told : goal.returns-clause-told
returns-clause-told g c = λ cs. heard_no_back cs c.args.machine.now _ (c.has_choice.ensures.none c.if-has_choice.false)

pub returns-then-has_choice-clause-part : goal.returns-then-has_choice-clause-part
returns-then-has_choice-clause-part g c =
    λ cs. part_back cs c.args.machine.now _ _ (c.has_choice.ensures.some c.if-has_choice.true) (told_part cs c.tell.result BackNote _ _ _ refl c.tell.ensures.told c.tell.ensures.memory)

pub returns-clause-part : goal.returns-clause-part
returns-clause-part g c = λ cs. part_none cs _ _ _ refl
