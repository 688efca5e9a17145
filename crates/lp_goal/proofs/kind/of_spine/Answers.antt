use Rattle.std.proofs.Common.{refl, sym, subst}
use Rattle.lp_calculus.specs.Term.{apply}
use Rattle.lp_store.specs.Contents.{cell_at}
use Rattle.lp_goal.specs.Kinds.{IsKind}
use Rattle.lp_goal.proofs.Told.{unnamed, constant_read, eigen_read}
use Rattle.lp_goal.proofs.kind.of_spine.Goals as goal

pub returns-in_ok-kind-in-Const-clause-kind : goal.returns-in_ok-kind-in-Const-clause-kind
returns-in_ok-kind-in-Const-clause-kind c = λ h us p q.
    let k = constant_read c.args.store.now c.args.spine.head.0 c.in-Const.number c.in-Const.types h c.in-Const.ensures.cell p in
    subst (λ x. IsKind c.of_constant.new.store c.in_ok-kind-in-Const.kind (apply x us)) (sym k.2) (c.in_ok-kind-in-Const.ensures.kind k.0 us k.1 q)

pub returns-in_ok-kind-in-Eigen-clause-kind : goal.returns-in_ok-kind-in-Eigen-clause-kind
returns-in_ok-kind-in-Eigen-clause-kind c = λ h us p q.
    subst (λ x. IsKind c.of_eigenconstant.new.store c.in_ok-kind-in-Eigen.kind (apply x us)) (sym (eigen_read c.args.store.now c.args.spine.head.0 c.in-Eigen.level h c.in-Eigen.ensures.cell p)) (c.in_ok-kind-in-Eigen.ensures.kind us q)

pub returns-in_default-clause-kind : goal.returns-in_default-clause-kind
returns-in_default-clause-kind c = λ h us p q.
    unnamed c.args.store.now c.args.spine.head.0 c.cell.result (cell_at c.args.store.now c.args.spine.head.0) c.cell.ensures.cell refl c.requires.top c.in_default.not-Const c.in_default.not-Eigen h us p
