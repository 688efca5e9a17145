use Rattle.std.proofs.Common.{ap, Err, ℕ}
use Rattle.std.specs.Global.{Global}
use Rattle.std.specs.Prelude.{Vec}
use Rattle.lp_lines.proofs.Looking.{found_unread, looked_read, looked_unread}
use Rattle.lp_lines.proofs.file.read_file.Goals as goal

pub returns-in-Ok-clause-looked : goal.returns-in-Ok-clause-looked
returns-in-Ok-clause-looked g c = looked_read c.in-Ok.ensures.read_faults c.in-Ok.ensures.misses c.in-Ok.ensures.overs c.in-Ok.ensures.write_faults c.in-Ok.ensures.same

pub returns-in-Ok-clause-found : goal.returns-in-Ok-clause-found
returns-in-Ok-clause-found g c = (c.in-Ok.ensures.short, c.in-Ok.ensures.told)

pub returns-in-Err-clause-looked : goal.returns-in-Err-clause-looked
returns-in-Err-clause-looked g c = looked_unread c.args.file.now c.args.passed c.in-Err.fault c.unread.result c.unread.ensures c.in-Err.ensures.read_faults c.in-Err.ensures.misses c.in-Err.ensures.overs c.in-Err.ensures.write_faults c.in-Err.ensures.same

pub returns-in-Err-clause-found : goal.returns-in-Err-clause-found
returns-in-Err-clause-found g c = found_unread (Vec ℕ Global) c.args.file.now c.args.most c.args.passed (g.F.Folder.held c.args.folder.now) c.in-Err.fault c.unread.result c.unread.ensures (λ e. c.in-Err.ensures.missing_only (ap Err e)) c.in-Err.ensures.too_long_only
