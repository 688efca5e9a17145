use Rattle.std.proofs.Common.{◌<◌, map, refl, subst, arith}
use Rattle.std.specs.Prelude.{All}
use Rattle.lp_module.specs.inner.Judging.{IsMeasure}
use Rattle.lp_module.proofs.measure.Measures.next.Goals as goal

pub returns-in-Index : goal.returns-in-Index
returns-in-Index c = subst (IsMeasure c.leaf.result) c.in-Index.ensures.tree (c.leaf.ensures.index c.in-Index.field-0 refl)

pub returns-in-Const : goal.returns-in-Const
returns-in-Const c = subst (IsMeasure c.leaf-in-Const.result) c.in-Const.ensures.tree (c.leaf-in-Const.ensures.atom _ c.is_connective.ensures)

pub returns-in-Int : goal.returns-in-Int
returns-in-Int c = subst (IsMeasure c.leaf-in-Int.result) c.in-Int.ensures.tree (c.leaf-in-Int.ensures.atom _ refl)

pub returns-in-Text : goal.returns-in-Text
returns-in-Text c = subst (IsMeasure c.leaf-in-Text.result) c.in-Text.ensures.tree (c.leaf-in-Text.ensures.atom _ refl)

pub returns-in-Eigen : goal.returns-in-Eigen
returns-in-Eigen c = subst (IsMeasure c.leaf-in-Eigen.result) c.in-Eigen.ensures.tree (c.leaf-in-Eigen.ensures.atom _ refl)

pub returns-in-Logic : goal.returns-in-Logic
returns-in-Logic c = subst (IsMeasure c.leaf-in-Logic.result) c.in-Logic.ensures.tree (c.leaf-in-Logic.ensures.atom _ refl)

pub returns-in-Param : goal.returns-in-Param
returns-in-Param c = subst (IsMeasure c.leaf-in-Param.result) c.in-Param.ensures.tree (c.leaf-in-Param.ensures.atom _ refl)

pub returns-in-Abs : goal.returns-in-Abs
returns-in-Abs c = subst (IsMeasure c.abstracted.result) c.in-Abs.ensures.tree (c.abstracted.ensures _ (c.known.ensures c.args.bank.now c.requires.measured (omega (arith, c.in-Abs.ensures.older, c.requires.next))))

pub returns-in-App : goal.returns-in-App
returns-in-App c = subst (IsMeasure c.application.result) c.in-App.ensures.tree c.application.ensures

pub application-requires-clause-head : goal.application-requires-clause-head
application-requires-clause-head c = omega (arith, c.in-App.ensures.older.0, c.requires.next)

pub application-requires-clause-arguments : goal.application-requires-clause-arguments
application-requires-clause-arguments c = subst (λ n. All (λ i. i < n) (map (λ t. t.0) c.in-App.arguments.now)) c.requires.next c.in-App.ensures.older.1
