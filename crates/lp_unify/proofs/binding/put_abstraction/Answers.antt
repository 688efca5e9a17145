use Rattle.lp_store.specs.declared.cell.Cell.TheVariants.{Abs}
use Rattle.lp_unify.proofs.Apart.{apart_pushed}
use Rattle.lp_unify.proofs.Ways.{one_avoided}
use Rattle.lp_unify.proofs.binding.put_abstraction.Goals as goal

pub returns-clause-apart : goal.returns-clause-apart
returns-clause-apart c = λ x h a.
    apart_pushed c.args.store.now c.push.new.self (Abs c.args.body) c.in_ok-id.id x c.in_ok-id.ensures.pushed c.in_ok-id.ensures.id (c.in_ok-id.ensures.avoids x h (one_avoided c.args.store.now x c.args.body.0 a.1))
