use Rattle.std.proofs.Common.{◌≡◌, ◌+◌, drop}
use Rattle.lp_sig.specs.Schemes.{place}
use Rattle.lp_sig.proofs.expand.place_among.Given as goal

abbrev pub invariant-loop-at : goal.invariant-loop-at
invariant-loop-at l = l.at + place (drop l.at l.numbers) l.number ≡ place l.numbers l.number
