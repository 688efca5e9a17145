use Rattle.std.proofs.Common.{sym, arith, refl, false}
use Rattle.std.proofs.lemmas.List.{nil_from_length}
use Rattle.lp_lemmas.proofs.Results.{passed_up}
use Rattle.lp_build.specs.Ordered.{AreInOrderSoFar}
use Rattle.lp_build.specs.declared.sources.Part.TheVariants as part
use Rattle.lp_build.proofs.Counting.{outside_then}
use Rattle.lp_build.proofs.Telling.{told_memory, told_passed, told_still}
use Rattle.lp_build.proofs.Walking.{fits, so_far, walk_ended, walk_taken}
use Rattle.lp_build.proofs.walk.Loading.run.Goals as goal

pub loop-preserved : goal.loop-preserved
loop-preserved g c = record {
  outside = outside_then _ _ _ _ _ _ _ _ _ c.loop.invariant.outside c.in_ok-step-in-Some.ensures.outside;
  read = λ h. c.in_ok-step-in-Some.ensures.read (c.loop.invariant.read h);
  told = λ h. told_still _ _ _ _ _ c.loop.invariant.outside.same (c.in_ok-step-in-Some.ensures.told (told_still _ _ _ _ _ (sym c.loop.invariant.outside.same) (c.loop.invariant.told h)));
  walked = λ all h.
      let t = walk_taken all c.args.root.now c.loop.self (record c.loop.self { work = c.pop.new.self }) c.in-Some.work refl refl refl c.in-Some.ensures.items (c.loop.invariant.walked all h) in
      c.in_ok-step-in-Some.ensures.walked all c.args.root.now t.0 t.1 t.2;
}

pub returns-in_err-step-in-Some-clause-told : goal.returns-in_err-step-in-Some-clause-told
returns-in_err-step-in-Some-clause-told g c = λ h.
    told_passed _ _ _ c.from_residual-in_err-step-in-Some.result c.in_err-step-in-Some.field-0.0 c.from_residual-in_err-step-in-Some.ensures.1
    (told_still _ _ _ _ _ c.loop.invariant.outside.same (c.in_err-step-in-Some.ensures.told (told_still _ _ _ _ _ (sym c.loop.invariant.outside.same) (c.loop.invariant.told h))))

pub returns-in-None-clause-told : goal.returns-in-None-clause-told
returns-in-None-clause-told g c = c.loop.invariant.told

pub returns-clause-told : goal.returns-clause-told
returns-clause-told g c = λ h. told_memory _ _ _ (c.loop.invariant.told h)

pub returns-in-None-clause-read : goal.returns-in-None-clause-read
returns-in-None-clause-read g c = c.loop.invariant.read

pub returns-in-None-clause-walked : goal.returns-in-None-clause-walked
returns-in-None-clause-walked g c = λ all h. walk_ended all c.args.root.now c.loop.self
    (nil_from_length c.loop.self.work.items (omega (arith, c.in-None.ensures.cases.0, c.loop.self.work.ok))) (c.loop.invariant.walked all h)

pub returns-in_err-want_module-clause-so_far : goal.returns-in_err-want_module-clause-so_far
returns-in_err-want_module-clause-so_far g c = λ all h.
    passed_up c.from_residual.result c.in_err-want_module.field-0.0 (AreInOrderSoFar all c.args.root.now c.want_module.new.self.sources) c.from_residual.ensures.1
    (c.in_err-want_module.ensures.so_far all c.args.root.now false (fits part.Signature c.args.root.now) h)

pub returns-in_err-step-in-Some-clause-so_far : goal.returns-in_err-step-in-Some-clause-so_far
returns-in_err-step-in-Some-clause-so_far g c = λ all h.
    let t = walk_taken all c.args.root.now c.loop.self (record c.loop.self { work = c.pop.new.self }) c.in-Some.work refl refl refl c.in-Some.ensures.items (c.loop.invariant.walked all h) in
    passed_up c.from_residual-in_err-step-in-Some.result c.in_err-step-in-Some.field-0.0 (AreInOrderSoFar all c.args.root.now c.step.new.self.sources) c.from_residual-in_err-step-in-Some.ensures.1
    (c.in_err-step-in-Some.ensures.so_far all c.args.root.now t.0 t.1 t.2)

pub returns-clause-so_far : goal.returns-clause-so_far
returns-clause-so_far g c = λ all h. so_far all c.args.root.now _ c.loop.self (c.loop.invariant.walked all h)
