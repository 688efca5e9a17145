use Rattle.std.proofs.Common.{length}
use Rattle.lp_build.proofs.Refusing.{made_all}
use Rattle.lp_build.proofs.signatures.Signatures.of.Goals as goal

pub returns-clause-declared : goal.returns-clause-declared
returns-clause-declared c = λ few. record { each = (c.in_ok-made.ensures.made few).each; places = c.in_ok-places.ensures }

pub returns-clause-every : goal.returns-clause-every
returns-clause-every c = λ few. made_all c.args.group.now c.in_ok-made.made.items (length c.args.group.now.texts.items) (c.in_ok-made.ensures.made few)
