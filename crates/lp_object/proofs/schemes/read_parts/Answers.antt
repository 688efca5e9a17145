use Rattle.std.proofs.Common.{◌-◌, replicate, refl, arith}
use Rattle.std.proofs.lemmas.Result.{err_from_is_err_and}
use Rattle.lp_lemmas.proofs.Lists.{map_pushed}
use Rattle.lp_bytes.proofs.Looping.{part_read, part_fails, parts_over, parts_done}
use Rattle.lp_object.specs.Reading.{scope, types_below, type_top_at}
use Rattle.lp_object.specs.inner.Parts.{type_top_of}
use Rattle.lp_object.proofs.Wanted.{one_wanted, more_wanted, none_wanted}
use Rattle.lp_object.proofs.schemes.read_parts.Goals as goal

pub loop-preserved : goal.loop-preserved
loop-preserved c = (
  omega (arith, c.loop.invariant.0, c.arguments.ensures.few, c.loop-test.true),
  part_read (λ one. type_top_at (scope c.args.width c.args.arities.now c.args.variables)) types_below _ _ (type_top_of c.in_ok-part.part) _ _ _ tt (replicate (c.loop.wanted - 1) tt) _ _ _ _ (map_pushed type_top_of _ _ c.in_ok-part.part c.in_ok-push.ensures.items) c.loop-test.true
      (one_wanted c.loop.wanted (omega (arith, c.if-wanted-eq0.false))) (more_wanted c.loop.wanted c.arguments.result _ _ c.arguments.ensures.arguments refl) c.in_ok-part.ensures c.loop.invariant.1,
)

pub returns-in_err-part : goal.returns-in_err-part
returns-in_err-part c =
    let p = err_from_is_err_and c.from_residual.result c.from_residual.ensures.1 in
    rw (p.1, p.2) (part_fails (λ one. type_top_at (scope c.args.width c.args.arities.now c.args.variables)) types_below _ _ _ _ _ tt (replicate (c.loop.wanted - 1) tt) _ _ c.loop-test.true (one_wanted c.loop.wanted (omega (arith, c.if-wanted-eq0.false))) c.in_err-part.ensures c.loop.invariant.1)

pub returns-then-wanted-eq0 : goal.returns-then-wanted-eq0
returns-then-wanted-eq0 c = parts_over (λ one. type_top_at (scope c.args.width c.args.arities.now c.args.variables)) types_below _ _ _ _ _ (none_wanted c.loop.wanted c.if-wanted-eq0.true) c.loop.invariant.1

pub returns : goal.returns
returns c = parts_done (λ one. type_top_at (scope c.args.width c.args.arities.now c.args.variables)) types_below _ _ _ _ _ _ c.loop-test.false c.loop.invariant.1
