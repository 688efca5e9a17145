use Rattle.std.proofs.Common.{◌∙◌, sym, refl, arith}
use Rattle.std.proofs.lemmas.List.{append-nil}
use Rattle.lp_pattern.proofs.Keeps.{grows_same, grows_then}
use Rattle.lp_pattern.proofs.TypesSolved.{one_taken, keys_distinct, none_distinct, some_inside}
use Rattle.lp_pattern.proofs.types.adopt.Goals as goal

pub loop-place-preserved : goal.loop-place-preserved
loop-place-preserved c = (
  grows_then c.args.bindings.now c.loop-place.bindings c.bind_type.new.self c.loop-place.invariant.0 c.in_ok-bind_type.ensures.grown,
  one_taken c.loop-place.place c.args.solution.now.made.entries c.args.bindings.now.types.entries c.loop-place.bindings.types.entries c.bind_type.new.self.types.entries (c.in-Some.variable, c.in-Some.to) c.loop-place.invariant.1
      c.in_ok-bind_type.ensures.made (sym c.entry.ensures ∙ c.in-Some.is),
  c.bind_type.ensures.terms ∙ c.loop-place.invariant.2,
  keys_distinct c.loop-place.place c.args.solution.now.made.entries c.args.bindings.now.types.entries c.loop-place.bindings.types.entries (c.in-Some.variable, c.in-Some.to) c.loop-place.invariant.1 (sym c.entry.ensures ∙ c.in-Some.is) c.in_ok-bind_type.ensures.free c.loop-place.invariant.3,
)

pub loop-place-init : goal.loop-place-init
loop-place-init c = (grows_same c.args.bindings.now, sym (append-nil c.args.bindings.now.types.entries), refl, none_distinct)

pub unreachable-requires : goal.unreachable-requires
unreachable-requires c = some_inside c.args.solution.now.made.entries c.loop-place.place (omega (arith, c.loop-place-test.true)) (sym c.entry.ensures ∙ c.in_default.is)
