use Rattle.std.proofs.Common.{arith}
use Rattle.lp_model.specs.Flattened.{goals_of}
use Rattle.lp_plain.proofs.Tabled.{either_put}
use Rattle.lp_plain.proofs.Within.{stays_then}
use Rattle.lp_plain.proofs.table.Table.put_either.Goals as goal

pub returns-clause-put : goal.returns-clause-put
returns-clause-put c = λ b. either_put b _ _ _ _ _ _ (goals_of b c.args.left.now) (goals_of b c.args.right.now) c.in_ok-one.one c.in_ok-other.other (c.in_ok-one.ensures.put b) (c.in_ok-other.ensures.put b)

pub returns-clause-within : goal.returns-clause-within
returns-clause-within c = λ n. stays_then n _ _ _ _ _ _ _ _ _ (λ h. omega (arith, h)) (λ h. omega (arith, h)) (c.in_ok-one.ensures.within n) (c.in_ok-other.ensures.within n)

pub returns-clause-flat : goal.returns-clause-flat
returns-clause-flat c = λ n. tt
