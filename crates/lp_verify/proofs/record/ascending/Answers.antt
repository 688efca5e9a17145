use Rattle.std.proofs.Common.{◌∙◌, ap, sym, subst}
use Rattle.std.specs.BTreeMap.{keys}
use Rattle.lp_code.specs.States.{member}
use Rattle.lp_verify.specs.inner.Known.{AreAbove}
use Rattle.lp_verify.proofs.OwnTypes.{keys_above, member_is}
use Rattle.lp_verify.proofs.record.ascending.Goals as goal

pub returns-clause-above : goal.returns-clause-above
returns-clause-above c = subst (AreAbove 0) (sym c.in_ok-list.ensures.list) (keys_above (keys c.args.made.now) c.len-count.ensures.ordered)

pub returns-clause-has : goal.returns-clause-has
returns-clause-has c = λ q. c.in_ok-list.ensures.has q ∙ member_is q (keys c.args.made.now) ∙ ap (member q) (sym c.in_ok-list.ensures.list)
