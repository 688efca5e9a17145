use Rattle.std.proofs.Common.{◌≡◌, ◌≤◌, take}
use Rattle.lp_watch.specs.Crowd.{open_places}
use Rattle.lp_watch.proofs.crowd.count_open.Given as goal

abbrev pub invariant-loop-text : goal.invariant-loop-text
invariant-loop-text l = (l.open ≡ open_places (take l.text-index l.texts)) × (l.open ≤ l.text-index)
