use Rattle.std.proofs.Common.{◌≡◌, ◌++◌, take}
use Rattle.std.specs.List.{flat_map}
use Rattle.lp_watch.specs.Reports.{report_of}
use Rattle.lp_watch.proofs.crowd.add_reports.Given as goal

abbrev pub invariant-loop-watcher : goal.invariant-loop-watcher
invariant-loop-watcher g l = l.out.items ≡ l.fn.out.items ++ flat_map (λ w. report_of (g.W.Watch.seen w)) (take l.watcher-index l.watchers)
