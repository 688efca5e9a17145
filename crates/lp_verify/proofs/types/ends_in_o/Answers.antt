use Rattle.std.proofs.Common.{◌∙◌, refl, inl}
use Rattle.lp_term.specs.Shapes.{type_shape}
use Rattle.lp_verify.proofs.TypeEnds.{ends_on, ends_here, further}
use Rattle.lp_verify.proofs.types.ends_in_o.Goals as goal

pub loop-init : goal.loop-init
loop-init c = (refl, inl refl)

pub loop-preserved : goal.loop-preserved
loop-preserved c =
    let b = c.args.bank.now in
    let q = ends_on b c.loop.last.0 (type_shape c.type_node.result) c.end_of.result c.in-Ok.to c.in-Ok.is c.end_of.ensures c.type_node.ensures.older c.type_node.ensures.within c.type_node.ensures.tree in
    (q.0 ∙ c.loop.invariant.0, further b c.loop.last.0 c.loop.counter c.in-Ok.to.0 q.1 q.2 c.loop.invariant.1)

pub returns-in-Err : goal.returns-in-Err
returns-in-Err c = ends_here c.args.bank.now c.loop.last.0 (type_shape c.type_node.result) c.end_of.result c.in-Err.ends c.in-Err.is c.end_of.ensures c.type_node.ensures.tree ∙ c.loop.invariant.0
