use Rattle.std.proofs.Common.{arith}
use Rattle.lp_gen.proofs.emitter.Emitter.bytes_behind.Goals as goal

pub returns : goal.returns
returns c = λ low. omega (arith, low, c.min.ensures, c.saturating_sub-bytes.ensures, c.saturating_add.ensures, c.args.self.now.bytes, c.args.self.now.few)
