use Rattle.std.proofs.Common.{◌≡◌, take, drop}
use Rattle.lp_session.specs.Lines.{in_front, lines_of}
use Rattle.lp_session.proofs.lines.first_line.Given as goal

abbrev pub invariant-feed : goal.invariant-feed
invariant-feed l = lines_of l.text ≡ in_front (take l.at l.text) (lines_of (drop l.at l.text))
