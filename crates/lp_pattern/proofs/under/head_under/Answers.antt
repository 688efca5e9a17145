use Rattle.std.proofs.Common.{refl, subst as transport}
use Rattle.lp_pattern.specs.Under.{under}
use Rattle.lp_pattern.specs.Seen.{IsDeepWhere}
use Rattle.lp_pattern.proofs.Walking.{looked_ends}
use Rattle.lp_pattern.proofs.under.head_under.Goals as goal

pub returns-in-Ok-clause-ended : goal.returns-in-Ok-clause-ended
returns-in-Ok-clause-ended c = looked_ends c.look.new.bank c.args.bindings.now c.in-Ok.looked c.in-Ok.ensures.looked

pub returns-in-Err-Deep-clause-refused : goal.returns-in-Err-Deep-clause-refused
returns-in-Err-Deep-clause-refused c = λ r i. (
  refl,
  transport (IsDeepWhere c.args.limit (under c.args.bank.now r c.args.term)) c.in-Err-Deep.field-0-is (c.in-Err-Deep.ensures.refused r i),
)
