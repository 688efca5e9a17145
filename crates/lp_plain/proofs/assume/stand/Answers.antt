use Rattle.std.proofs.Common.{refl, arith}
use Rattle.lp_plain.proofs.assume.stand.Goals as goal

pub returns-clause-stood : goal.returns-clause-stood
returns-clause-stood c = record {
  bank = refl;
  index = refl;
  table = refl;
  scopes = refl;
  frames = refl;
  course = record { choices = refl; counts = refl; denied = refl; branch = refl };
  assumed = record { assumptions = refl; newest = refl };
  counted = omega (arith, c.len-number.ensures, c.args.machine.now.standings.ok);
  more = c.in_ok-push.ensures.items;
}
