use Rattle.std.proofs.Common.{List}
use Rattle.std.proofs.lemmas.Result.{on_ok_weaker, IfErr-weaker}
use Rattle.lp_calculus.specs.Types.{Ty}
use Rattle.lp_model.specs.Types.{zipped}
use Rattle.lp_unify.specs.Heads.{types_at}
use Rattle.lp_unify.specs.TypeTurns.{ReadStack}
use Rattle.lp_unify.specs.TypeEquations.{ReadPairs, AreRefused}
use Rattle.lp_unify.proofs.TypeCells.{head_pairs}
use Rattle.lp_unify.proofs.rules.equate_types.Goals as goal

pub returns-clause-solved : goal.returns-clause-solved
returns-clause-solved c =
    on_ok_weaker c.solve_types.result
    (λ f Ts Us r q. f (zipped Ts Us) (head_pairs c.args.store.now (types_at c.args.store.now c.args.one) (types_at c.args.store.now c.args.other) c.new-types.result.items c.push_types.new.todo.items Ts Us c.in_ok-push_types.ensures c.new-types.ensures.items c.requires r q))
    c.solve_types.ensures.solved

pub returns-clause-refused : goal.returns-clause-refused
returns-clause-refused c =
    IfErr-weaker c.solve_types.result _ _
    (λ e f Ts Us r q. f (zipped Ts Us) (head_pairs c.args.store.now (types_at c.args.store.now c.args.one) (types_at c.args.store.now c.args.other) c.new-types.result.items c.push_types.new.todo.items Ts Us c.in_ok-push_types.ensures c.new-types.ensures.items c.requires r q))
    c.solve_types.ensures.refused
