use Rattle.std.proofs.Common.{arith, refl}
use Rattle.lp_files.proofs.Differing.{differing_is}
use Rattle.lp_files.proofs.Ordering.{member_there}
use Rattle.lp_files.proofs.link.differing_at.Goals as goal

pub returns-in-Some-clause-says : goal.returns-in-Some-clause-says
returns-in-Some-clause-says c =
    let os = c.args.objects.now in
    let o = c.in-Some.object.now in
    let fits = c.ranges.number.fits in
    differing_is os c.args.number c.args.part o c.differing.result (omega (arith, fits))
    (member_there os os c.args.number o refl c.in-Some.ensures.lookup.3.0 c.in-Some.ensures.lookup.1) c.differing.ensures.says
