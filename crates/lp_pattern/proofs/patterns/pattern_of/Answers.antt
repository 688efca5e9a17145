use Rattle.std.proofs.Common.{ℕ, ◌≤◌, [], ◌∷◌, ap, arith, length, map, None, Some}
use Rattle.std.proofs.lemmas.List.{length-append}
use Rattle.lp_term.proofs.Trees.{extends-trans}
use Rattle.lp_term.proofs.Moves.{passed_up}
use Rattle.lp_model.specs.Pair.{Closing}
use Rattle.lp_pattern.specs.Under.{IsReading}
use Rattle.lp_pattern.specs.Stripping.{IsShut, HasNoPattern, read_at}
use Rattle.lp_pattern.proofs.ArgumentRuns.{deep_at, none_at, next_at, at_eigen, pushed_eigens}
use Rattle.lp_pattern.proofs.Walking.{reading_kept}
use Rattle.lp_pattern.proofs.patterns.pattern_of.Goals as goal

pub returns-in_err-found-clause-refused : goal.returns-in_err-found-clause-refused
returns-in_err-found-clause-refused c =
    passed_up c.from_residual.result c.in_err-found.field-0.0
    (λ e. (r : Closing) → IsReading c.args.bank.now c.args.bindings.now r → IsShut r → (m : ℕ) → m ≤ 1000000 → HasNoPattern m c.args.level (map (read_at c.args.bank.now r c.args.opened.level c.args.opened.depth) c.args.arguments.now) e)
    c.from_residual.ensures.1
    (λ r i h m l.
    deep_at c.args.bank.now c.loop-place.bank r c.args.opened.level c.args.opened.depth m c.args.level c.args.arguments.now c.loop-place.place _ c.loop-place.eigens.items c.loop-place.invariant.kept c.requires.known
    (omega (arith, c.loop-place-test.true)) (c.loop-place.invariant.rest r i h m) c.in_err-found.field-0.0
    (c.in_err-found.ensures.refused r (reading_kept c.args.bank.now c.loop-place.bank c.args.bindings.now r c.loop-place.invariant.kept i) h m l))

pub returns-in_default-clause-pattern : goal.returns-in_default-clause-pattern
returns-in_default-clause-pattern c = λ r i h m.
    none_at c.args.bank.now c.loop-place.bank r c.args.opened.level c.args.opened.depth m c.args.level c.args.arguments.now c.loop-place.place _ c.loop-place.eigens.items c.loop-place.invariant.kept c.requires.known
    (omega (arith, c.loop-place-test.true)) (c.loop-place.invariant.rest r i h m)
    (at_eigen m _ c.in_ok-found.found None c.in_default.is (c.in_ok-found.ensures.eigen r (reading_kept c.args.bank.now c.loop-place.bank c.args.bindings.now r c.loop-place.invariant.kept i) h m))

pub loop-place-preserved : goal.loop-place-preserved
loop-place-preserved c = record {
  kept = extends-trans c.args.bank.now c.loop-place.bank c.as_eigen.new.bank c.loop-place.invariant.kept c.in_ok-found.ensures.kept;
  count = omega (arith, ap length c.in_ok-push.ensures.items, length-append c.loop-place.eigens.items (c.in-Some.eigen ∷ []), c.loop-place.invariant.count);
  rest = λ r i h m.
      pushed_eigens m _ _ c.push.new.self.items _ c.in_ok-push.ensures.items
      (next_at c.args.bank.now c.loop-place.bank r c.args.opened.level c.args.opened.depth m c.args.level c.args.arguments.now c.loop-place.place _ c.loop-place.eigens.items c.loop-place.invariant.kept c.requires.known
      (omega (arith, c.loop-place-test.true)) (c.loop-place.invariant.rest r i h m) c.in-Some.eigen
      (at_eigen m _ c.in_ok-found.found (Some c.in-Some.eigen) c.in-Some.is (c.in_ok-found.ensures.eigen r (reading_kept c.args.bank.now c.loop-place.bank c.args.bindings.now r c.loop-place.invariant.kept i) h m)));
}

pub returns-clause-many : goal.returns-clause-many
returns-clause-many c = omega (arith, c.loop-place.invariant.count, c.loop-place-test.false)
