use Rattle.std.proofs.Common.{sym}
use Rattle.lp_plain.proofs.ListReads.{read_at}
use Rattle.lp_plain.proofs.Scoped.{get_none}
use Rattle.lp_plain.proofs.machine.Machine.frame.Goals as goal

pub returns-in-Some : goal.returns-in-Some
returns-in-Some c = sym (read_at c.args.self.now.frames.items c.deref.result.now c.args.number c.in-Some.frame.now _ c.deref.ensures.value c.in-Some.ensures.lookup.3.0 c.in-Some.ensures.lookup.1)

pub returns-in-None : goal.returns-in-None
returns-in-None c = sym (get_none c.args.self.now.frames.items c.deref.result.now c.args.number c.deref.ensures.value c.in-None.ensures.lookup.3)
