use Rattle.std.proofs.Common.{◌∙◌, ap}
use Rattle.std.specs.List.{list_any}
use Rattle.std.specs.Ordering.{nat_cmp, eq_by_cmp}
use Rattle.lp_verify.proofs.record.listed.Goals as goal

pub returns-clause-has : goal.returns-clause-has
returns-clause-has c = λ q. c.keys-register-items.ensures.has q ∙ ap (list_any (eq_by_cmp nat_cmp q)) c.keys-register-items.ensures.rest
