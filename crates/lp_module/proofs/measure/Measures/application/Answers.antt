use Rattle.std.proofs.Common.{sym, subst, length, map, add-one}
use Rattle.lp_calculus.specs.Term.{apply}
use Rattle.lp_term.specs.Nodes.{tree}
use Rattle.lp_term.proofs.Knowing.{applied_next, take_whole, id_below}
use Rattle.lp_module.specs.inner.Judging.{IsMeasure}
use Rattle.lp_module.proofs.measure.Measures.application.Goals as goal

pub loop-argument-init : goal.loop-argument-init
loop-argument-init c = c.known-measure.ensures c.args.bank.now c.requires.measured c.requires.head

pub loop-argument-preserved : goal.loop-argument-preserved
loop-argument-preserved c =
    let next = applied_next (tree c.args.bank.now) (tree c.args.bank.now c.args.head.0) c.args.arguments.now c.loop-argument.argument-index _ (add-one c.loop-argument.argument-index) c.loop-argument-test.true in
    subst (IsMeasure c.applied-measure.result) (sym next)
    (c.applied-measure.ensures _ _ c.loop-argument.invariant
    (c.known.ensures c.args.bank.now c.requires.measured (id_below (length c.args.self.now.measured.items) c.args.arguments.now c.loop-argument.argument-index c.requires.arguments c.loop-argument-test.true)))

pub returns : goal.returns
returns c =
    subst (λ l. IsMeasure c.loop-argument.measure (apply (tree c.args.bank.now c.args.head.0) (map (tree c.args.bank.now) (map (λ t. t.0) l))))
    (take_whole c.args.arguments.now c.loop-argument.argument-index c.loop-argument-test.false) c.loop-argument.invariant
