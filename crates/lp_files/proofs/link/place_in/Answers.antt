use Rattle.std.proofs.Common.{arith}
use Rattle.lp_files.proofs.Differing.{number_back}
use Rattle.lp_files.proofs.link.place_in.Goals as goal

pub returns : goal.returns
returns c = let fits = c.ranges.number.fits in number_back c.args.first c.args.number (omega (arith, c.if-number-first.false)) (omega (arith, fits))
