use Rattle.std.proofs.Common.{◌≡◌, take, map}
use Rattle.std.specs.List.{flat_map}
use Rattle.lp_watch.specs.Reports.{line_of}
use Rattle.lp_watch.specs.Kept.{kept_event}
use Rattle.lp_watch.proofs.tracer.lines.Given as goal

abbrev pub invariant-loop-kept : goal.invariant-loop-kept
invariant-loop-kept l = l.out.items ≡ flat_map line_of (map kept_event (take l.kept-index l.notes))
