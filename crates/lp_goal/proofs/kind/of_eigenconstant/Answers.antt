use Rattle.lp_goal.proofs.Told.{eigen_call}
use Rattle.lp_goal.proofs.kind.of_eigenconstant.Goals as goal

pub returns-clause-kind : goal.returns-clause-kind
returns-clause-kind c = λ us p.
    eigen_call c.args.store.now c.list.new.self c.listed.new.store c.args.level c.in_ok-types.types c.in_ok-arguments.arguments c.args.spine.arguments c.in_ok-types.ensures.kept c.in_ok-arguments.ensures.kept c.in_ok-types.ensures.span.1 c.requires.1
    c.in_ok-arguments.ensures.cells us p
