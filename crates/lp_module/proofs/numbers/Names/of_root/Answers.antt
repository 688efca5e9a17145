use Rattle.std.proofs.Common.{length, ap}
use Rattle.lp_module.proofs.Placing.{root_of}
use Rattle.lp_module.proofs.numbers.Names.of_root.Goals as goal

pub returns : goal.returns
returns c = record {
  kinds = root_of 8 (length c.args.member.now.signature.kinds.items) _ c.args.member.now.hidden_kinds.items _ c.args.firsts.kind _ (ap length c.kinds.ensures) c.as_slice.ensures.value c.in_ok-kinds.ensures;
  constants = root_of 32 (length c.args.member.now.signature.constants.items) _ c.args.member.now.hidden_constants.items _ c.args.firsts.constant _ (ap length c.constants.ensures) c.as_slice-2.ensures.value c.in_ok-constants.ensures;
}
