use Rattle.std.proofs.Common.{refl, sym, subst}
use Rattle.std.proofs.lemmas.Result.{err_from_is_err_and}
use Rattle.lp_lemmas.proofs.Lists.{map_pushed, map_composed}
use Rattle.lp_term.proofs.Trees.{extends-trans}
use Rattle.lp_bytes.proofs.Looping.{goes_on, ends, is_done}
use Rattle.lp_object.specs.Plain.{plain_object_constant}
use Rattle.lp_object.specs.Reading.{object_constant_name, object_constant_at}
use Rattle.lp_object.specs.inner.Known.{Knows, object_constant_told}
use Rattle.lp_object.proofs.object.read_counted_constants.Goals as goal

pub loop-preserved : goal.loop-preserved
loop-preserved c =
    let more = c.in_ok-push.ensures.items in (
      extends-trans _ _ _ c.loop.invariant.0 c.in_ok-constant.ensures.kept,
      subst (Knows c.read_constant.new.names) (sym (map_pushed object_constant_told _ _ c.in_ok-constant.constant more)) (c.in_ok-constant.ensures.known _ c.loop.invariant.1),
      λ b y.
          let told = subst (Knows c.loop.names) (sym (map_composed (plain_object_constant b) object_constant_name object_constant_told (λ k. refl) c.loop.constants.items)) c.loop.invariant.1 in
          goes_on (object_constant_at c.args.arities.now) _ _ _ _ _ _ _ _ (map_pushed (plain_object_constant b) _ _ c.in_ok-constant.constant more) c.loop-test.true (c.in_ok-constant.ensures.read b y _ told)
          (c.loop.invariant.2 b (extends-trans _ _ b c.in_ok-constant.ensures.kept y)),
    )

pub returns-in_err-constant-clause-read : goal.returns-in_err-constant-clause-read
returns-in_err-constant-clause-read c = λ b y.
    let p = err_from_is_err_and c.from_residual.result c.from_residual.ensures.1 in
    let told = subst (Knows c.loop.names) (sym (map_composed (plain_object_constant b) object_constant_name object_constant_told (λ k. refl) c.loop.constants.items)) c.loop.invariant.1 in
    rw (p.1, p.2) (ends _ (object_constant_at c.args.arities.now) _ _ _ _ _ c.loop-test.true (c.in_err-constant.ensures.read b y _ told) (c.loop.invariant.2 b (extends-trans _ _ b c.in_err-constant.ensures.kept y)))

pub returns-clause-read : goal.returns-clause-read
returns-clause-read c = λ b y. is_done (object_constant_at c.args.arities.now) _ _ _ _ _ c.loop-test.false (c.loop.invariant.2 b y)
