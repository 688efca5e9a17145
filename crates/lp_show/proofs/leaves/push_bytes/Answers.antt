use Rattle.std.proofs.Common.{arith}
use Rattle.lp_show.proofs.Texts.{escaped_more}
use Rattle.lp_show.proofs.leaves.push_bytes.Goals as goal

pub bytes-preserved : goal.bytes-preserved
bytes-preserved c = record {
  within = omega (arith, c.bytes-test.true);
  text = escaped_more c.args.bytes.now c.bytes.at 0 c.args.out.now.items c.bytes.out.items c.push_escaped.new.out.items c.bytes-test.true c.bytes.invariant.text c.in_ok-push_escaped.ensures;
}
