use Rattle.std.proofs.Common.{sym, ◌∙◌}
use Rattle.lp_session.proofs.Feeds.{blank_more, not_blank, blank_end}
use Rattle.lp_session.proofs.lines.is_blank.Goals as goal

pub returns-then-not-is_blank_byte : goal.returns-then-not-is_blank_byte
returns-then-not-is_blank_byte c = not_blank c.args.line.now c.blanks.at c.blanks-test.true (sym c.is_blank_byte.ensures ∙ c.if-not-is_blank_byte.true) c.blanks.invariant

pub blanks-preserved : goal.blanks-preserved
blanks-preserved c = blank_more c.args.line.now c.blanks.at c.blanks-test.true (sym c.is_blank_byte.ensures ∙ c.if-not-is_blank_byte.false) c.blanks.invariant

pub returns : goal.returns
returns c = blank_end c.args.line.now c.blanks.at c.blanks-test.false c.blanks.invariant
