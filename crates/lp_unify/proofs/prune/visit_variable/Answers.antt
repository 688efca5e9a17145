use Rattle.std.proofs.Common.{refl}
use Rattle.lp_unify.proofs.prune.visit_variable.Goals as goal

pub bind-requires : goal.bind-requires
bind-requires c = (c.in_ok-value.ensures.fresh c.args.seen.now.top.0 (c.if-not-has.ensures.within refl)).1
