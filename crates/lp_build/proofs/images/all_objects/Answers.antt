use Rattle.std.proofs.Common.{◌≡◌, ◌+◌, ◌∙◌, ◌++◌, ◌∷◌, [], length, refl, sym, subst, arith, inl}
use Rattle.std.specs.Prelude.{◌⊎◌, All, zip}
use Rattle.std.proofs.lemmas.List.{length_push, take_all}
use Rattle.std.proofs.lemmas.Iterator.{YieldsList-from_zip}
use Rattle.std.proofs.lemmas.Iterator.Adapters.{YieldsList-from_vec}
use Rattle.std.proofs.lemmas.Iterator.Consumers.{YieldsList-at, YieldsList-end, YieldsList-turn}
use Rattle.lp_lemmas.proofs.Results.{passed_up}
use Rattle.lp_code.specs.declared.object.Object.{Object}
use Rattle.lp_sig.specs.Refusals.{IsAt}
use Rattle.lp_module.specs.Sentences.{AreWithin}
use Rattle.lp_module.specs.declared.module.Module.{Module}
use Rattle.lp_build.specs.Compiled.{ArePaired}
use Rattle.lp_build.specs.Uncoded.{IsWithinCode}
use Rattle.lp_build.specs.Unmade.{IsFirstUnmade}
use Rattle.lp_build.specs.inner.Coded.{IsCoded}
use Rattle.lp_build.specs.declared.fault.BuildFault.TheVariants as fault
use Rattle.lp_build.proofs.Compiling.{paired_more, paired_none}
use Rattle.lp_build.proofs.Imaging.{objects_are}
use Rattle.lp_build.proofs.Uncoding.{at_all, coded_more, coded_none}
use Rattle.lp_build.proofs.Unmaking.{first_unmade, zip_all, zip_front}
use Rattle.lp_build.proofs.images.all_objects.Goals as goal

pub loop-module-init : goal.loop-module-init
loop-module-init c = (paired_none IsCoded (zip c.args.modules.items c.args.named.items) c.new-objects.result.items c.new-objects.ensures.items, λ within same. coded_none c.args.modules.items 0 refl)

pub loop-module-preserved : goal.loop-module-preserved
loop-module-preserved c =
    let all = zip c.args.modules.items c.args.named.items in
    let done = c.loop-module.yielded in
    let pair : Module × Object = (c.in-Some.module, c.in-Some.names) in
    let first = YieldsList-at c.zip-module-items.ensures.first (YieldsList-from_vec c.args.modules.items c.into_iter.ensures.rest (omega (arith, c.into_iter.ensures.len, c.args.modules.ok))) in
    let second = YieldsList-from_vec c.args.named.items c.zip-module-items.ensures.second.0 (omega (arith, c.zip-module-items.ensures.second.1, c.args.named.ok)) in
    let road = YieldsList-at c.into_iter-module-iterator.ensures.into_iter_gives (YieldsList-from_zip first second) in
    let turn = YieldsList-turn road done c.loop-module.module-iterator c.loop-module.yielded_by c.next.result c.next.new.self pair c.in-Some.is c.next.ensures.steps in
    let l = length_push done pair in
    let n : length done + 1 ≡ length (done ++ pair ∷ []) = omega (arith, l) in
    let at : IsAt c.args.modules.items (length done) c.in-Some.module = zip_front c.args.modules.items c.args.named.items (length done) c.in-Some.module c.in-Some.names (turn.0, sym turn.1) in (
      subst (λ n. ArePaired IsCoded all n c.push.new.self.items) n
          (paired_more IsCoded all (length done) c.loop-module.objects.items c.push.new.self.items pair c.in_ok-object.object (turn.0, sym turn.1) c.in_ok-push.ensures.items
          (record { names = c.in_ok-object.ensures.names; code = c.in_ok-object.ensures.code }) c.loop-module.invariant.0),
      λ within same. coded_more c.args.modules.items (length done) (length (done ++ pair ∷ [])) c.in-Some.module l at
          (c.in_ok-object.ensures.within (at_all (λ m. AreWithin m.bank m.clauses.items) c.args.modules.items (length done) c.in-Some.module at within)) (c.loop-module.invariant.1 within same),
    )

pub returns-in_err-object-clause-cause : goal.returns-in_err-object-clause-cause
returns-in_err-object-clause-cause c = λ within same.
    let done = c.loop-module.yielded in
    let pair : Module × Object = (c.in-Some.module, c.in-Some.names) in
    let first = YieldsList-at c.zip-module-items.ensures.first (YieldsList-from_vec c.args.modules.items c.into_iter.ensures.rest (omega (arith, c.into_iter.ensures.len, c.args.modules.ok))) in
    let second = YieldsList-from_vec c.args.named.items c.zip-module-items.ensures.second.0 (omega (arith, c.zip-module-items.ensures.second.1, c.args.named.ok)) in
    let road = YieldsList-at c.into_iter-module-iterator.ensures.into_iter_gives (YieldsList-from_zip first second) in
    let turn = YieldsList-turn road done c.loop-module.module-iterator c.loop-module.yielded_by c.next.result c.next.new.self pair c.in-Some.is c.next.ensures.steps in
    let at : IsAt c.args.modules.items (length done) c.in-Some.module = zip_front c.args.modules.items c.args.named.items (length done) c.in-Some.module c.in-Some.names (turn.0, sym turn.1) in
    passed_up c.from_residual.result c.in_err-object.field-0.0 (λ e. (e ≡ fault.Memory) ⊎ IsFirstUnmade c.args.modules.items e) c.from_residual.ensures.1
    (first_unmade c.args.modules.items (length done) c.in-Some.module c.in_err-object.field-0.0 at (c.loop-module.invariant.1 within same)
    (c.in_err-object.ensures.cause (at_all (λ m. AreWithin m.bank m.clauses.items) c.args.modules.items (length done) c.in-Some.module at within)))

pub returns-in_err-push-clause-cause : goal.returns-in_err-push-clause-cause
returns-in_err-push-clause-cause c = λ within same. passed_up c.from_residual-in_err-push.result fault.Memory (λ e. (e ≡ fault.Memory) ⊎ IsFirstUnmade c.args.modules.items e) c.from_residual-in_err-push.ensures.1 (inl refl)

pub returns-clause-within : goal.returns-clause-within
returns-clause-within c = λ within same.
    let first = YieldsList-at c.zip-module-items.ensures.first (YieldsList-from_vec c.args.modules.items c.into_iter.ensures.rest (omega (arith, c.into_iter.ensures.len, c.args.modules.ok))) in
    let second = YieldsList-from_vec c.args.named.items c.zip-module-items.ensures.second.0 (omega (arith, c.zip-module-items.ensures.second.1, c.args.named.ok)) in
    let road = YieldsList-at c.into_iter-module-iterator.ensures.into_iter_gives (YieldsList-from_zip first second) in
    let end = YieldsList-end road c.loop-module.yielded c.loop-module.module-iterator c.loop-module.yielded_by c.next.result c.next.new.self c.in-None.is c.next.ensures.steps in
    let z = zip_all c.args.modules.items c.args.named.items same in
    let e = end.1 in
    subst (All IsWithinCode) (take_all (length c.loop-module.yielded) c.args.modules.items (omega (arith, e, z))) (c.loop-module.invariant.1 within same)

pub returns-clause-objects : goal.returns-clause-objects
returns-clause-objects c = λ named within.
    let first = YieldsList-at c.zip-module-items.ensures.first (YieldsList-from_vec c.args.modules.items c.into_iter.ensures.rest (omega (arith, c.into_iter.ensures.len, c.args.modules.ok))) in
    let second = YieldsList-from_vec c.args.named.items c.zip-module-items.ensures.second.0 (omega (arith, c.zip-module-items.ensures.second.1, c.args.named.ok)) in
    let road = YieldsList-at c.into_iter-module-iterator.ensures.into_iter_gives (YieldsList-from_zip first second) in
    let end = YieldsList-end road c.loop-module.yielded c.loop-module.module-iterator c.loop-module.yielded_by c.next.result c.next.new.self c.in-None.is c.next.ensures.steps in
    objects_are c.args.modules.items c.args.named.items c.loop-module.objects.items named within
    (subst (λ n. ArePaired IsCoded (zip c.args.modules.items c.args.named.items) n c.loop-module.objects.items) end.1 c.loop-module.invariant.0)
