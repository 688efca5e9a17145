use Rattle.lp_pattern.proofs.ArgumentForms.{has_member, no_member}
use Rattle.lp_pattern.proofs.patterns.is_good.Goals as goal

pub returns-then-contains : goal.returns-then-contains
returns-then-contains c = has_member c.args.k c.args.others.now c.contains.result _ c.contains.ensures.value c.if-contains.true

pub returns : goal.returns
returns c = no_member c.args.k c.args.others.now c.contains.result _ c.contains.ensures.value c.if-contains.false
