use Rattle.std.proofs.Common.{rules, ◌≡◌, ◌++◌, [], ◌-◌, length, map, drop, ap, sym, ◌∙◌}
use Rattle.std.specs.List.{flat_map}
use Rattle.std.proofs.lemmas.List.{length-drop}
use Rattle.std.proofs.lemmas.Result.{on_ok_weaker}
use Rattle.lp_watch.specs.Crowd.{places, reports}
use Rattle.lp_watch.specs.Reports.{report_of}
use Rattle.lp_watch.proofs.Steps.{take_whole, drop_whole, no_texts}
use Rattle.lp_watch.proofs.crowd.add_places.Goals as goal

pub returns : goal.returns
returns g c =
    let seen = g.W.Watch.seen in
    let rest = drop c.loop-text.i c.args.watchers.now in
    let over : drop c.loop-text.text-index c.args.texts.now ≡ [] = drop_whole c.args.texts.now c.loop-text.text-index (search rules) in
    on_ok_weaker c.add_reports.result
    (λ e. e ∙ ap (λ l. c.loop-text.out.items ++ flat_map (λ w. report_of (seen w)) l) (take_whole rest (length c.args.watchers.now - c.loop-text.i)
    (sym (length-drop c.loop-text.i c.args.watchers.now))) ∙ ap (λ l. c.loop-text.out.items ++ l)
    (sym (no_texts seen rest) ∙ ap (λ ts. reports (places ts (map seen rest))) (sym over)) ∙ c.loop-text.invariant.0)
    c.add_reports.ensures
