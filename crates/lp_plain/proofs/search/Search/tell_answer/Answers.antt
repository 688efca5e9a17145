use Rattle.std.proofs.Common.{◌≡◌, ◌∙◌, ap, arith, map, suc}
use Rattle.std.proofs.lemmas.Result.{on_ok_weaker}
use Rattle.lp_watch.specs.Crowd.{crowd_after, places}
use Rattle.lp_watch.specs.Notes.{answer}
use Rattle.lp_model.specs.Skeleton.{AnswerNote}
use Rattle.lp_plain.proofs.HeardParts.{told_part}
use Rattle.lp_plain.proofs.search.Search.tell_answer.Goals as goal

pub returns-clause-heard : goal.returns-clause-heard
returns-clause-heard g c =
    let old = places c.args.crowd.now.texts.items (map g.W.Watch.seen c.args.crowd.now.watchers.now.items) in
    on_ok_weaker c.tell.result
    (λ h cs l f.
    let e : c.saturating_add-self.result ≡ suc c.args.self.now.given = (let a = c.saturating_add-self.ensures in omega (arith, a, l, f)) in
    h ∙ ap (λ k. crowd_after (answer k) old) e) c.tell.ensures.told

pub returns-clause-part : goal.returns-clause-part
returns-clause-part g c = λ cs l f.
    let e : c.saturating_add-self.result ≡ suc c.args.self.now.given = (let a = c.saturating_add-self.ensures in omega (arith, a, l, f)) in
    told_part cs c.tell.result (AnswerNote (suc c.args.self.now.given)) _ _ _ (ap answer e) c.tell.ensures.told c.tell.ensures.memory
