use Rattle.std.proofs.Common.{arith}
use Rattle.lp_unify.proofs.Entries.{none_waits}
use Rattle.lp_unify.proofs.delayed.Delayed.hide.Goals as goal

pub returns-clause-none : goal.returns-clause-none
returns-clause-none c = none_waits c.self.inside.entries.items c.push.new.self.items _ c.in_ok-push.ensures.items (omega (arith, c.len-count.ensures, c.self.inside.entries.ok))
