use Rattle.lp_session.proofs.Feeds.{next_byte, a_feed, last_line}
use Rattle.lp_session.proofs.lines.first_line.Goals as goal

pub returns-then-text-at-eq10-clause-lines : goal.returns-then-text-at-eq10-clause-lines
returns-then-text-at-eq10-clause-lines c = a_feed c.args.text.now c.feed.at c.feed-test.true c.if-text-at-eq10.true c.feed.invariant

pub feed-preserved : goal.feed-preserved
feed-preserved c = next_byte c.args.text.now c.feed.at c.feed-test.true c.if-text-at-eq10.false c.feed.invariant

pub returns-clause-lines : goal.returns-clause-lines
returns-clause-lines c = last_line c.args.text.now c.feed.at c.feed-test.false c.feed.invariant
