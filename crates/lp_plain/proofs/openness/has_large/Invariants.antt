use Rattle.std.proofs.Common.{◌≡◌, take, false}
use Rattle.std.specs.List.{list_any}
use Rattle.lp_plain.specs.Standings.{is_large}
use Rattle.lp_plain.proofs.openness.has_large.Given as goal

abbrev pub invariant-numbers : goal.invariant-numbers
invariant-numbers l = list_any is_large (take l.number-index l.numbers) ≡ false
