use Rattle.std.proofs.Common.{◌∙◌}
use Rattle.std.specs.Ordering.{nat_cmp}
use Rattle.std.specs.BTreeMap.{get, is_at}
use Rattle.lp_verify.proofs.KeyLaws.{at_same}
use Rattle.lp_verify.proofs.KeptRegisters.{put_value}
use Rattle.lp_verify.proofs.record.Work.name_one.Goals as goal

pub returns-clause-named : goal.returns-clause-named
returns-clause-named c = λ h n. c.in_ok-before.ensures.updates.0 n ∙ put_value c.args.number n c.args.place (is_at (nat_cmp c.args.number) n) (get nat_cmp c.args.named.now n) (at_same c.args.number n)
