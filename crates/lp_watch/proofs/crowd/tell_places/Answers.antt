use Rattle.std.proofs.Common.{rules, ◌≡◌, true, false, map, take, drop}
use Rattle.lp_lemmas.proofs.Results.{on_err_always}
use Rattle.lp_watch.specs.Crowd.{places}
use Rattle.lp_watch.specs.Notes.{event_of}
use Rattle.lp_watch.specs.Seen.{stays}
use Rattle.lp_watch.proofs.Steps.{skip_at, stay_at, leave_at, stop_at, stop_after_at, over_at, over_all, still_within}
use Rattle.lp_watch.proofs.crowd.tell_places.Goals as goal

pub loop-place-preserved-then-is_some : goal.loop-place-preserved-then-is_some
loop-place-preserved-then-is_some g c =
    let before = places c.args.texts.now.items (map g.W.Watch.seen c.args.watchers.now.items) in
    let here = c.loop-place in (
      skip_at g.W.Watch.seen (event_of c.args.note) before here.texts.items (take here.i here.watchers.items) (drop here.i here.watchers.items) here.place c.index.result.now
          (search rules) (search rules) (search rules) here.invariant.0,
      here.invariant.1,
      here.invariant.2,
    )

pub returns-then-i-len-clause-told : goal.returns-then-i-len-clause-told
returns-then-i-len-clause-told g c =
    let before = places c.args.texts.now.items (map g.W.Watch.seen c.args.watchers.now.items) in
    let here = c.loop-place in
    (over_at g.W.Watch.seen (event_of c.args.note) before here.texts.items here.watchers.items here.place here.i (search rules) here.invariant.0)

pub returns-in_err-note-clause-memory : goal.returns-in_err-note-clause-memory
returns-in_err-note-clause-memory g c =
    let before = places c.args.texts.now.items (map g.W.Watch.seen c.args.watchers.now.items) in
    let here = c.loop-place in
    on_err_always c.from_residual.result
    (stop_at g.W.Watch.seen (event_of c.args.note) before here.texts.items here.watchers.items here.place here.i c.index_mut.result.now c.note.new.self
    (search rules) (search rules) (search rules) here.invariant.0)

pub loop-place-preserved-then-eq : goal.loop-place-preserved-then-eq
loop-place-preserved-then-eq g c =
    let before = places c.args.texts.now.items (map g.W.Watch.seen c.args.watchers.now.items) in
    let here = c.loop-place in
    let takes : stays (g.W.Watch.seen c.index_mut.result.now).left ≡ true = search rules in (
      stay_at g.W.Watch.seen (event_of c.args.note) before here.texts.items here.watchers.items here.place here.i c.index.result.now c.index_mut.result.now c.note.new.self
          (search rules) (search rules) (search rules) (search rules) (search rules) takes (search rules) here.invariant.0,
      here.invariant.1,
      search rules,
    )

pub returns-in_err-text-clause-memory : goal.returns-in_err-text-clause-memory
returns-in_err-text-clause-memory g c =
    let before = places c.args.texts.now.items (map g.W.Watch.seen c.args.watchers.now.items) in
    let here = c.loop-place in
    on_err_always c.from_residual-in_err-text.result
    (stop_after_at g.W.Watch.seen (event_of c.args.note) before here.texts.items here.watchers.items here.place here.i c.index.result.now c.index_mut.result.now c.note.new.self
    (search rules) (search rules) (search rules) (search rules) (search rules) (search rules) here.invariant.0)

pub loop-place-preserved : goal.loop-place-preserved
loop-place-preserved g c =
    let before = places c.args.texts.now.items (map g.W.Watch.seen c.args.watchers.now.items) in
    let here = c.loop-place in
    let done : stays (g.W.Watch.seen c.index_mut.result.now).left ≡ false = search rules in
    let walk = leave_at g.W.Watch.seen (event_of c.args.note) before here.texts.items here.watchers.items here.place here.i c.index.result.now c.index_mut.result.now c.note.new.self c.in_ok-text.text
    (search rules) (search rules) (search rules) (search rules) (search rules) done (search rules) (search rules) here.invariant.0 in (
      rw (c.dismiss.ensures.texts, c.dismiss.ensures.watchers) walk,
      search rules,
      rw c.dismiss.ensures.watchers (still_within here.watchers.items here.i c.note.new.self (search rules)),
    )

pub returns-clause-told : goal.returns-clause-told
returns-clause-told g c =
    let before = places c.args.texts.now.items (map g.W.Watch.seen c.args.watchers.now.items) in
    let here = c.loop-place in
    let all = over_all g.W.Watch.seen (event_of c.args.note) before here.texts.items here.watchers.items here.place here.i (search rules) (search rules) here.invariant.0 in
    (over_at g.W.Watch.seen (event_of c.args.note) before here.texts.items here.watchers.items here.place here.i all here.invariant.0)
