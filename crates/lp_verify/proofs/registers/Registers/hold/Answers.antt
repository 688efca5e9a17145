use Rattle.std.proofs.Common.{◌∙◌}
use Rattle.std.specs.Ordering.{nat_cmp}
use Rattle.std.specs.BTreeMap.{is_at}
use Rattle.lp_verify.specs.Held.{value_in}
use Rattle.lp_verify.proofs.KeyLaws.{at_same}
use Rattle.lp_verify.proofs.KeptRegisters.{put_value}
use Rattle.lp_verify.proofs.registers.Registers.hold.Goals as goal

pub returns-clause-held : goal.returns-clause-held
returns-clause-held g c = λ r. c.in_ok-insert.ensures.updates.0 r ∙ put_value c.args.register r c.args.value (is_at (nat_cmp c.args.register) r) (value_in c.args.self.now r) (at_same c.args.register r)
