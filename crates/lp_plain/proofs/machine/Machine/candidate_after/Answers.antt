use Rattle.lp_plain.proofs.Tries.{one_tried}
use Rattle.lp_plain.proofs.machine.Machine.candidate_after.Goals as goal

pub returns : goal.returns
returns c = record {
  next = c.candidate_after.ensures.next;
  tries = one_tried c.args.self.now c.args.call.now c.args.candidate _ c.candidate_after.ensures.next;
  less = c.candidate_after.ensures.less;
}
