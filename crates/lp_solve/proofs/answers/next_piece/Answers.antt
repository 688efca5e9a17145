use Rattle.std.proofs.Common.{map, refl, subst}
use Rattle.lp_watch.specs.Crowd.{places}
use Rattle.lp_solve.specs.Shown.{names_in}
use Rattle.lp_solve.specs.Written.{CannotBeShown}
use Rattle.lp_solve.specs.inner.Events.{IfDeep, IsTold, as_told, plain, too_deep}
use Rattle.lp_solve.specs.inner.Heard.{IsNext}
use Rattle.lp_solve.proofs.answers.next_piece.Goals as goal

pub returns-in-Ended-clause-piece : goal.returns-in-Ended-clause-piece
returns-in-Ended-clause-piece g c = as_told c.in-Ended.why c.next_event.new.search (subst (λ e. IsTold c.args.search.now e c.next_event.new.search) c.in-Ended.is c.in_ok-why.ensures.next.told)

pub returns-in-Ok-clause-piece : goal.returns-in-Ok-clause-piece
returns-in-Ok-clause-piece g c = (c.in-Answer.answer, subst (λ e. IsTold c.args.search.now e c.next_event.new.search) c.in-Answer.is c.in_ok-why.ensures.next.told, c.in-Ok.ensures.text)

pub returns-in-Err-Deep-clause-piece : goal.returns-in-Err-Deep-clause-piece
returns-in-Err-Deep-clause-piece g c =
    too_deep c.in-Answer.answer c.next_event.new.search (subst (λ e. IsTold c.args.search.now e c.next_event.new.search) c.in-Answer.is c.in_ok-why.ensures.next.told)
    (subst (IfDeep (CannotBeShown (names_in c.args.shown.now) (plain c.in-Answer.answer))) c.in-Err-Deep.field-0-is c.in-Err-Deep.ensures.refused)

pub returns-in-Ended-clause-heard : goal.returns-in-Ended-clause-heard
returns-in-Ended-clause-heard g c = λ other.
    subst (λ e. IsNext c.args.search.now e c.next_event.new.search (places c.args.crowd.now.texts.items (map g.W.Watch.seen c.args.crowd.now.watchers.now.items)) (places c.next_event.new.crowd.texts.items (map g.W.Watch.seen c.next_event.new.crowd.watchers.now.items)))
    c.in-Ended.is c.in_ok-why.ensures.next

pub returns-in-Ok-clause-heard : goal.returns-in-Ok-clause-heard
returns-in-Ok-clause-heard g c = (
  c.in-Answer.answer,
  subst (λ e. IsNext c.args.search.now e c.next_event.new.search (places c.args.crowd.now.texts.items (map g.W.Watch.seen c.args.crowd.now.watchers.now.items)) (places c.next_event.new.crowd.texts.items (map g.W.Watch.seen c.next_event.new.crowd.watchers.now.items)))
      c.in-Answer.is c.in_ok-why.ensures.next,
)

pub returns-in-Err-Deep-clause-heard : goal.returns-in-Err-Deep-clause-heard
returns-in-Err-Deep-clause-heard g c = λ other. absurd (other refl)

pub returns-in-Ended-clause-part : goal.returns-in-Ended-clause-part
returns-in-Ended-clause-part g c = c.next_event.ensures.part

pub returns-in-Ok-clause-part : goal.returns-in-Ok-clause-part
returns-in-Ok-clause-part g c = c.next_event.ensures.part

pub returns-in-Err-Deep-clause-part : goal.returns-in-Err-Deep-clause-part
returns-in-Err-Deep-clause-part g c = c.next_event.ensures.part

pub returns-in_err-why-clause-part : goal.returns-in_err-why-clause-part
returns-in_err-why-clause-part g c = c.next_event.ensures.part
