use Rattle.lp_store.specs.declared.cell.Cell.TheVariants.{Logic}
use Rattle.lp_unify.proofs.Apart.{fresh_pushed}
use Rattle.lp_unify.proofs.Ways.{none_avoided}
use Rattle.lp_unify.proofs.binding.put_variable.Goals as goal

pub returns-clause-fresh : goal.returns-clause-fresh
returns-clause-fresh c =
    fresh_pushed c.args.store.now c.push.new.self (Logic c.args.level) c.in_ok-id.id c.in_ok-id.ensures.pushed c.in_ok-id.ensures.id (λ x h. c.in_ok-id.ensures.avoids x h (none_avoided c.args.store.now x))
