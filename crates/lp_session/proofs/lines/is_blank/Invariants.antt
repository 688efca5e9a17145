use Rattle.std.proofs.Common.{◌≡◌, drop}
use Rattle.lp_session.specs.Lines.{is_blank}
use Rattle.lp_session.proofs.lines.is_blank.Given as goal

abbrev pub invariant-blanks : goal.invariant-blanks
invariant-blanks l = is_blank l.line ≡ is_blank (drop l.at l.line)
